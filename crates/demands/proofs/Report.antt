-- The report, by demands 1 and 2: what any call that keeps its promise (`ReportCall`) leaves in the lent output, at any
-- bytes and any output. What a program then prints is those bytes; that it prints them is tested.
use mathlib.Core.List.Memᴰ
use mathlib.Core.List.{List, [], ◌∷◌, ◌++◌}
use mathlib.Core.Logic.Iff
use mathlib.Core.Logic.{inl, inr, ◌↔◌}
use mathlib.Core.Path.{◌≡◌, refl, sym, ◌∙◌}
use native.Mathlib.Nat.{mul-le-mul}
use native.Mathlib.Omega.{arith}
use Prim.Native.Nat.{ℕ, ◌*◌, ◌<◌, ◌≤◌}
use lib.ListN.{length, get_or, take}
use lib.Seq.{take_at}
use Rattle.basics.specs.Membership.{◌∈◌}
use Rattle.basics.proofs.Booleans.{less?}
use Rattle.trace.specs.Refusals.{by_earlier, by_this, file_numbers}
use Rattle.trace.specs.Trace.{Trace, size}
use Rattle.trace.proofs.Outcomes.{outcome-refused}
use Rattle.accept.specs.Acceptance.{AcceptedTrace, accept_answer}
use Rattle.trace.specs.Answer.{Refused}
use Rattle.accept.proofs.Answers.{answer-means}
use Rattle.accept.proofs.Questions.{refused-file, refused-number, accepted-limits, accepted-workers}
use Rattle.lent.proofs.Writing.{written-past}
use Rattle.order_table.specs.Refusals.{AcceptedTable}
use Rattle.race_model.specs.declared.Race.{Race}
use Rattle.race_model.specs.Race.{RaceListOf}
use Rattle.race_model.specs.RaceList.{race_list}
use Rattle.race_model.proofs.OnlyList.{list-only}
use Rattle.races.specs.Races.{races_reading}
use Rattle.races.specs.Refusals.{RefusedRaces}
use Rattle.races.proofs.Questions.{races-comes-out, refused-short}
use Rattle.report_text.specs.ReportText.{listing, refusal, text_of, table_space, race_space, report_text, ReportCall}
use Rattle.report_text.proofs.Cut.{report-cut}
use Rattle.report_text.proofs.Reports.{report-part}
use Rattle.report_text.proofs.Tells.{listing-apart, text-tells}
use Rattle.demands.specs.Outcomes.{ReportOutcome, gives}
use Rattle.demands.proofs.Outcomes.{outcome-exactly}

-- the lent table is long enough for every accepted file, so that 11 refuses none
table-enough : {bytes : List ℕ} {t : Trace} → AcceptedTrace bytes t → size t * t.workers ≤ table_space
table-enough h = let (some, most, few) = accepted-limits h in mul-le-mul few most

module _ {bytes lent : List ℕ} {count : ℕ} {now : List ℕ} (c : ReportCall bytes lent count now) where
  starts : take count now ≡ report_text bytes
  starts = rw (c.leaves, c.answers) (take_at (report_text bytes) _ (length (report_text bytes)) refl)

  -- "Every entry takes all bytes and numbers, finishes, and either gives its result or a refusal number from document
  -- 01's questions." The output starts with the lines of an accepted trace of no more than 4,096 races, or with the
  -- line of the refusal by the first "no", and with nothing else:
  pub report-answers : (x : List ℕ) → (take count now ≡ x) ↔ ReportOutcome bytes x
  unfolding report_text
  report-answers x = rw starts (outcome-exactly text_of (races-comes-out bytes table_space race_space) x)

  -- So it is the line of a refusal exactly if the questions refuse with that number and place:
  pub report-refused : (q k : ℕ) → (take count now ≡ refusal q k) ↔ RefusedRaces bytes table_space race_space q k
  unfolding report_text
  report-refused q k =
      rw starts
      (Iff.trans (outcome-refused text_of text-tells (races_reading bytes table_space race_space) q k)
      ((races-comes-out bytes table_space race_space).refuses q k))

  -- Its refusal numbers are those of the file's questions, and 16:
  pub report-numbers : (q k : ℕ) → take count now ≡ refusal q k → q ∈ file_numbers ++ 16 ∷ []
  report-numbers q k e = go ((report-refused q k).0 e)
    where
      go : RefusedRaces bytes table_space race_space q k → q ∈ file_numbers ++ 16 ∷ []
      go (by_this t f l n z) = Memᴰ.append_right file_numbers (Memᴰ.head n)
      go (by_earlier (by_earlier r)) = Memᴰ.append_left (16 ∷ []) (refused-number r)
      go (by_earlier (by_this t h l n z)) = absurd (omega (arith, l, table-enough h))

  -- What reading the file refuses, it refuses alike:
  pub report-refuses-file : (q k : ℕ) → accept_answer bytes ≡ Refused q k → take count now ≡ refusal q k
  report-refuses-file q k a =
      (report-refused q k).1 (by_earlier (by_earlier ((refused-file bytes q k).0 ((answer-means bytes q k).0 a))))

  -- The output is as long as it was, and what lies behind the text is as before:
  pub report-length : length now ≡ length lent
  report-length = (report-part c).0

  pub report-past : (i : ℕ) → count ≤ i → get_or now i 0 ≡ get_or lent i 0
  report-past i l = rw c.leaves (written-past (report_text bytes) lent 0 i (omega (arith, l, c.answers)))

-- document 01: "It reads a file from standard input, up to 10,251 bytes": the report of the first 10,251 bytes is that
-- of the whole input.
pub report-of-cut : {bytes lent : List ℕ} {count : ℕ} {now : List ℕ} → 10251 ≤ length bytes
    → ReportCall (take 10251 bytes) lent count now → ReportCall bytes lent count now
report-of-cut {bytes} l c =
    record {
      answers = rw (report-cut bytes l) at c.answers;
      fits = c.fits;
      leaves = rw (report-cut bytes l) at c.leaves;
    }

-- "The races [are those] of the maximal valid executions": for an accepted file, where `all` is the list of its races
-- (`race-list-exists`, `race-list-same`), the report has a line for each of them exactly if they are no more than
-- 4,096, and is refused 16 with their number exactly if they are more.
module _ {bytes : List ℕ} {t : Trace} (h : AcceptedTrace bytes t) {all : List Race} (r : RaceListOf t all)
    {lent : List ℕ} {count : ℕ} {now : List ℕ} (c : ReportCall bytes lent count now) where
  same : all ≡ race_list t
  same = list-only (accepted-workers h) r

  filled : AcceptedTable bytes table_space t
  filled = record { accepted = h; table_holds = table-enough h }

  lists : length all ≤ race_space → take count now ≡ listing t.workers (size t) all (length all)
  lists l = rw same ((report-answers c _).1 (gives (record { filled = filled; list_holds = rw same at l })))

  pub report-no-space : (k : ℕ)
      → (take count now ≡ refusal 16 k) ↔ ((race_space < length all) × (k ≡ length all))
  report-no-space k = rw same (Iff.trans (report-refused c 16 k) (refused-short filled k))

  pub report-lists :
      (take count now ≡ listing t.workers (size t) all (length all)) ↔ (length all ≤ race_space)
  report-lists = (forth, lists)
    where
      forth : take count now ≡ listing t.workers (size t) all (length all) → length all ≤ race_space
      forth e = elim (less? race_space (length all)) [
        | inl l ↦ absurd (listing-apart _ _ _ _ 16 (length all) (sym e ∙ (report-no-space (length all)).1 (l, refl)))
        | inr l ↦ l
      ]
