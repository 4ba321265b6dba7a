-- Writing races as records. In order: a row of races, for the loop over it; all races, row by row, for the loop over
-- the rows; the call.
use mathlib.Core.List.{List, [], ◌∷◌, ◌++◌, map, append_assoc, append-nil}
use mathlib.Core.Logic.{inl, inr}
use mathlib.Core.Path.{◌≡◌, refl, sym, ap, ◌∙◌}
use native.Mathlib.Numerals.{add-one}
use native.Mathlib.Omega.{arith}
use Prim.Native.Nat.{ℕ, zero, suc, ◌+◌, ◌<◌, ◌≤◌}
use lib.ListN.{length, get_or, set, take, length-map, get_or-map}
use lib.Seq.{paste, paste-suc, length-paste, take_at, take-length}
use Rattle.basics.proofs.Booleans.{equal?}
use Rattle.std.specs.Prelude.{Ok, Err}
use Rattle.trace.specs.declared.Refusal.{Refusal}
use Rattle.trace.specs.Reading.{trace_of}
use Rattle.trace.specs.Trace.{Trace, size}
use Rattle.lent.specs.Written.{written_over}
use Rattle.lent.proofs.Writing.{Written, written-by}
use Rattle.race_model.specs.declared.Race.{Race}
use Rattle.race_model.specs.RaceList.{pair, races_below, race_list, race_count}
use Rattle.race_model.specs.RaceRows.{race_row, RowHolds}
use Rattle.race_model.proofs.RowLists.{row_count, below-start, below_next, below_all, below-count, below-few}
use Rattle.races.specs.declared.answer.Races.{Races}
use Rattle.races.specs.Races.{CountCall}
use Rattle.races.proofs.Answers.{all-counted, none-listed}
use Rattle.races.proofs.PairWriting.{pasted-written}
use Rattle.race_list.specs.Listing.{ListCall}

-- ---- a row of races, for the loop over it

-- the races of `lower` with the first i numbers of a row are written to a list, from `at` on
abbrev pub rowed : List Race → ℕ → ℕ → List ℕ → ℕ → List Race
rowed old at lower row i = paste old at (map (pair lower) row) i

take-races : (lower k : ℕ) (l : List ℕ) → take k (map (pair lower) l) ≡ map (pair lower) (take k l)
take-races lower zero l = refl
take-races lower (suc k) [] = refl
take-races lower (suc k) (x ∷ l) = ap (λ (r : List Race). pair lower x ∷ r) (take-races lower k l)

module _ (old : List Race) (at lower : ℕ) (row : List ℕ) (i : ℕ) where
  -- the list is as long as before
  pub rowed-length : at + i ≤ length old → i ≤ length row → length (rowed old at lower row i) ≡ length old
  rowed-length l m =
      length-paste old at (map (pair lower) row) i l (omega (arith, length-map row (pair lower), m))

  -- race i is stored behind the i races before it
  pub rowed-next : at + i < length old → i < length row
      → set (rowed old at lower row i) (at + i) (pair lower (get_or row i 0)) ≡ rowed old at lower row (i + 1)
  rowed-next l m =
      let long = length-map row (pair lower) in
      rw (add-one i, ← get_or-map (pair lower) row i 0)
      (paste-suc old at (map (pair lower) row) i (pair lower 0) l (omega (arith, long, m)))

-- ---- all races, row by row, for the loop over the rows

-- the races whose lower operation is below a are written over a list
abbrev pub rows_over : Trace → List Race → ℕ → List Race
rows_over t old a = written_over (races_below t a) old

pub over_none : (t : Trace) (old : List Race) → old ≡ rows_over t old 0
over_none t old = rw (below-start t)

-- where the loop stands: the `at` races whose lower operation is below a are written
pub record RowsDone (t : Trace) (count a at : ℕ) : Type 0 where
  pub below : a ≤ size t
  pub few : at ≤ count
  pub counts : at ≡ length (races_below t a)

-- nothing is written
pub rows-first : (t : Trace) (count : ℕ) → RowsDone t count 0 0
rows-first t count = record { below = omega arith; few = omega arith; counts = sym (ap length (below-start t)) }

-- they come first in the list of all races
below_rest : (t : Trace) (a c : ℕ) → a ≤ c → (rest : List Race) × (races_below t c ≡ races_below t a ++ rest)
below_rest t a zero l = let e : a ≡ 0 = omega arith in ([], rw e (sym (append-nil (races_below t 0))))
below_rest t a (suc c) l = elim (equal? a (suc c)) [
  | inl e ↦ ([], rw e (sym (append-nil (races_below t (suc c)))))
  | inr d ↦
      let (rest, e) = below_rest t a c (omega (arith, d)) in
      let more = map (pair c) (race_row t c) in
      (rest ++ more, rw (below_next t c, e) (append_assoc (races_below t a) rest more))
]

below-front : (t : Trace) (a : ℕ) → a ≤ size t → take (length (races_below t a)) (race_list t) ≡ races_below t a
below-front t a l =
    let (rest, e) = below_rest t a (size t) l in
    rw (← below_all t, e) (take_at (races_below t a) rest (length (races_below t a)) refl)

module _ {t : Trace} {count : ℕ} (all : count ≡ race_count t) where
  module _ {a at : ℕ} (old : List Race) (room : count ≤ length old) (d : RowsDone t count a at) where
    written_below : Written at (races_below t a) old (rows_over t old a)
    written_below = written-by (sym d.counts) (omega (arith, d.few)) refl

    -- the list is as long as before
    pub over-length : length (rows_over t old a) ≡ length old
    over-length = written_below.size

    -- ---- the end: all that are to be written are written

    pub rows-over : count ≤ at → rows_over t old a ≡ written_over (race_list t) old
    rows-over l =
        let e : race_count t ≡ length (races_below t a) = omega (arith, d.few, d.counts) in
        rw (← take-length (race_list t), e, below-front t a d.below)

    -- ---- a row more

    module _ (less : at < count) where
      pub rows_inside : a < size t
      rows_inside = elim (equal? a (size t)) [
        | inl e ↦
            let last : length (races_below t a) ≡ race_count t = rw e (ap length (below_all t)) in
            absurd (omega (arith, all, d.counts, last))
        | inr n ↦ omega (arith, n, d.below)
      ]

      module _ {found : ℕ} {row' : List ℕ} (r : RowHolds (race_row t a) found row') where
        pub row_few : at + found ≤ count
        row_few =
            omega (arith, all, d.counts, below-count t a, row_count r, below-few t (suc a) rows_inside)

        pub row_fits : (at + found ≤ length (rows_over t old a)) × (found ≤ length row')
        row_fits = (omega (arith, row_few, over-length), omega (arith, r.few, r.long))

        pub row-over : rowed (rows_over t old a) at a row' found ≡ rows_over t old (a + 1)
        row-over =
            let races = map (pair a) in
            let long : length (races (race_row t a)) ≡ found =
            length-map (race_row t a) (pair a) ∙ row_count r in
            let front : take found (races row') ≡ races (race_row t a) =
            rw (← r.front) (take-races a found row') in
            let more =
            pasted-written (races row') (races (race_row t a)) written_below long front (omega (arith, row_few)) in
            rw (add-one, below_next t a) more.whole

        pub row_done : RowsDone t count (a + 1) (at + found)
        row_done =
            record {
              below = omega (arith, rows_inside);
              few = row_few;
              counts = rw add-one (omega (arith, d.counts, below-count t a, row_count r));
            }

-- ---- the call

module _ {bytes table table-now : List ℕ} (list : List Race) where
  -- where the races are written, the call keeps its promise
  pub call-written : {r : Races} {list-now : List Race} → CountCall bytes table (length list) (Ok r) table-now
      → list-now ≡ written_over (race_list (trace_of bytes)) list → ListCall bytes table list (Ok r) table-now list-now
  call-written call w =
      record {
        answers = call.answers;
        leaves_table = call.leaves_table;
        leaves_list = w ∙ rw (all-counted call).listed;
      }

  -- and where it refuses
  pub call-refused : {q : Refusal} → CountCall bytes table (length list) (Err q) table-now
      → ListCall bytes table list (Err q) table-now list
  call-refused call =
      record {
        answers = call.answers;
        leaves_table = call.leaves_table;
        leaves_list = rw (none-listed call);
      }
