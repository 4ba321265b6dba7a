-- The report, by what the race list answers. In order: the text by the outcome of the questions; what the call asks of
-- the race list, with how much space; room for what is listed, and its text; the call's promise.
use mathlib.Core.List.{List}
use mathlib.Core.Path.{◌≡◌, refl, ap, ◌∙◌}
use native.Mathlib.Omega.{arith}
use Prim.Native.Nat.{ℕ, ◌≤◌}
use lib.ListN.{length, take, replicate, length-append, length-replicate}
use Rattle.trace.specs.Reading.{Reading, refused, reads}
use Rattle.trace.specs.Trace.{Trace}
use Rattle.race_model.specs.RaceList.{race_list, race_count}
use Rattle.lent.proofs.Writing.{written-length}
use Rattle.std.specs.Prelude.{Result}
use Rattle.races.specs.declared.answer.Races.{Races}
use Rattle.trace.specs.declared.Refusal.{Refusal}
use Rattle.races.specs.Races.{races_reading, races_answer, race_records, shorter, RacesCall}
use Rattle.races.specs.Refusals.{AcceptedRaces}
use Rattle.races.proofs.Answers.{answer-by}
use Rattle.races.proofs.Listed.{lists-hold, lists_length}
use Rattle.races.proofs.Questions.{races-comes-out}
use Rattle.text.specs.Placed.{Placed}
use Rattle.text.proofs.Placing.{placed-all}
use Rattle.report_text.specs.ReportText.{text_of, table_space, race_space, report_text, ReportCall}
use Rattle.report_text.specs.Premises.{ListingRoom, to_write, answer_text}

-- by the outcome of the questions
text-by : (bytes : List ℕ) {r : Reading} → races_reading bytes table_space race_space ≡ r → report_text bytes ≡ text_of r
unfolding report_text
text-by bytes e = rw e

-- what the call knows: the race list is asked with that much space
pub record Asked (bytes : List ℕ) (answer : Result Races Refusal) (lower higher : List ℕ) : Type 0 where
  pub answers : answer ≡ races_answer bytes table_space race_space
  pub lower-length : length lower ≡ race_space
  pub higher-length : length higher ≡ race_space
  pub holds : {t : Trace} → AcceptedRaces bytes table_space race_space t
      → take (race_count t) (race_records lower higher) ≡ race_list t

-- it is lent zeros
pub races-asked : {bytes table-now lower higher : List ℕ} {answer : Result Races Refusal}
    → RacesCall bytes (replicate table_space 0) (replicate race_space 0) (replicate race_space 0) answer table-now lower
    higher
    → Asked bytes answer lower higher
races-asked {bytes} c =
    record {
      answers = rw (table-length, list_length, list_length) at c.answers;
      lower-length = rw c.leaves_lower ((lists_length bytes table list list).0 ∙ list_length);
      higher-length = rw c.leaves_higher ((lists_length bytes table list list).1 ∙ list_length);
      holds = λ h. rw (c.leaves_lower, c.leaves_higher) (lists-hold bytes table list list (same h));
    }
  where
    table : List ℕ
    table = replicate table_space 0

    list : List ℕ
    list = replicate race_space 0

    table-length : length (replicate {A = ℕ} table_space 0) ≡ table_space
    table-length = length-replicate {A = ℕ} table_space 0

    list_length : length (replicate {A = ℕ} race_space 0) ≡ race_space
    list_length = length-replicate {A = ℕ} race_space 0

    same : {t : Trace} → AcceptedRaces bytes table_space race_space t
        → AcceptedRaces bytes (length table) (shorter (length list) (length list)) t
    same h = rw (table-length, list_length, list_length) h

module _ {bytes : List ℕ} {answer : Result Races Refusal} {lower higher : List ℕ} (a : Asked bytes answer lower higher) where
  -- there is room for what is listed
  pub asked-room : {output : List ℕ} → length output ≡ 69676 → ListingRoom output lower higher (to_write answer)
  asked-room {output} o = go (races_reading bytes table_space race_space) refl
    where
      go : (r : Reading) → races_reading bytes table_space race_space ≡ r
          → ListingRoom output lower higher (to_write answer)
      go (refused q k) e =
          rw (a.answers, answer-by bytes table_space race_space e)
          (record { lower_holds = omega arith; higher_holds = omega arith; room = omega (arith, o) })
      go (reads t) e =
          let fits = (((races-comes-out bytes table_space race_space).passes t).0 e).list_holds in
          rw (a.answers, answer-by bytes table_space race_space e)
          (record {
            lower_holds = omega (arith, fits, a.lower-length);
            higher_holds = omega (arith, fits, a.higher-length);
            room = omega (arith, fits, o);
          })

  -- and its text is the report
  pub asked-text : answer_text answer (race_records lower higher) ≡ report_text bytes
  asked-text = go (races_reading bytes table_space race_space) refl
    where
      go : (r : Reading) → races_reading bytes table_space race_space ≡ r
          → answer_text answer (race_records lower higher) ≡ report_text bytes
      go (refused q k) e = rw (a.answers, answer-by bytes table_space race_space e, text-by bytes e)
      go (reads t) e =
          let races-are = a.holds (((races-comes-out bytes table_space race_space).passes t).0 e) in
          rw (a.answers, answer-by bytes table_space race_space e, text-by bytes e, races-are)

-- ---- the call's promise

-- the text that is placed from the start on is the report's, in an output that is as long as it was
pub call_by : {bytes lent text : List ℕ} {size : ℕ} {now : List ℕ} → Placed lent 0 text size now
    → text ≡ report_text bytes → length now ≡ length lent → ReportCall bytes lent size now
call_by {text = text} p e l =
    let (answers, leaves) = placed-all p in
    record {
      answers = rw e at answers;
      fits = omega (arith, answers, simp length-append at (ap length leaves), l);
      leaves = rw e at leaves;
    }

-- the text is a part of the output
pub report-part : {bytes lent : List ℕ} {size : ℕ} {now : List ℕ} → ReportCall bytes lent size now
    → (length now ≡ length lent) × (size ≤ length now)
report-part {bytes} {lent} {now = now} c = (same, omega (arith, same, c.fits))
  where
    same : length now ≡ length lent
    same = rw c.leaves (written-length (report_text bytes) lent (omega (arith, c.answers, c.fits)))
