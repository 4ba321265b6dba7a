-- Counting races and writing them to two lists, row by row. In order: counting; writing; the end.
use mathlib.Core.List.{List, [], ◌∷◌, ◌++◌, map, map-append, append_assoc}
use mathlib.Core.Logic.{inl, inr}
use mathlib.Core.Path.{◌≡◌, refl, sym, ap, ◌∙◌}
use native.Mathlib.Nat.{mul-le-mul}
use native.Mathlib.Numerals.{add-one}
use native.Mathlib.Omega.{arith}
use Prim.Native.Nat.{ℕ, suc, ◌+◌, ◌*◌, ◌<◌, ◌≤◌}
use lib.ListN.{length, get_or, set, take, replicate, length-set, length-map, length-replicate, get_or-replicate}
use lib.Seq.{paste, drop-drop, take_all, get_or-set_same, get_or-set_other}
use Rattle.basics.proofs.Booleans.{equal?}
use Rattle.trace.specs.Reading.{trace_of}
use Rattle.trace.specs.Trace.{Trace, size}
use Rattle.lent.proofs.Writing.{Written, written_none, written-part}
use Rattle.race_model.specs.declared.Race.{Race}
use Rattle.words.proofs.Passing.{passing-few}
use Rattle.table_entries.specs.Entries.{HoldsTable}
use Rattle.table_entries.proofs.TableEntries.{table-short}
use Rattle.race_model.specs.RaceList.{is_race, pair, races_below, race_list, race_count}
use Rattle.race_model.specs.RaceRows.{race_row, RowHolds}
use Rattle.race_model.proofs.RaceLists.{list-few}
use Rattle.race_model.proofs.RowLists.{row_count, below-start, below_next, below-count, below-few}
use Rattle.race_model.proofs.RowLists.{below_all}
use Rattle.races.specs.Premises.{Hints, AllWritten}
use Rattle.races.specs.Races.{lowers, highers}

-- ---- counting

-- there are at most 1,024 × 1,024 races
pub table-few : {bytes table : List ℕ} → HoldsTable bytes table → race_count (trace_of bytes) ≤ 1048576
table-few {bytes} h =
    let few = table-short h in
    let square = mul-le-mul {n₂ = 1024} {m₂ = 1024} few few in
    omega (arith, square, list-few (trace_of bytes))

pub row_few : (t : Trace) (a : ℕ) → length (race_row t a) ≤ size t
row_few t a = passing-few (is_race t a) (size t)

-- the races whose lower operation is below a are counted, and noted
pub record Counted (t : Trace) (a count : ℕ) (counts : List ℕ) : Type 0 where
  pub below : a ≤ size t
  pub few : count ≤ 1024 * a
  pub sum : count ≡ length (races_below t a)
  pub long : length counts ≡ 1024
  pub noted : (k : ℕ) → k < a → get_or counts k 0 ≡ length (race_row t k)

pub count_none : (t : Trace) {counts : List ℕ} → length counts ≡ 1024 → Counted t 0 0 counts
count_none t e =
    record {
      below = omega arith;
      few = omega arith;
      sum = sym (ap length (below-start t));
      long = e;
      noted = λ k l. absurd (omega arith);
    }

module _ {t : Trace} {a count : ℕ} {counts : List ℕ} (c : Counted t a count counts) where
  pub count-more : {more : ℕ} → size t ≤ 1024 → a < size t → more ≡ length (race_row t a)
      → Counted t (a + 1) (count + more) (set counts a more)
  count-more {more} s l e =
      record {
        below = omega arith;
        few = omega (arith, c.few, e, row_few t a);
        sum = rw add-one (omega (arith, c.sum, below-count t a, e));
        long = simp length-set c.long;
        noted = noted;
      }
    where
      noted : (k : ℕ) → k < a + 1 → get_or (set counts a more) k 0 ≡ length (race_row t k)
      noted k m = elim (equal? k a) [
        | inl i ↦ rw i (get_or-set_same counts a more 0 (omega (arith, c.long)) ∙ e)
        | inr d ↦ get_or-set_other counts a k more 0 d ∙ c.noted k (omega (arith, d))
      ]

  pub count-all : size t ≤ a → (count ≡ race_count t) × Hints t counts
  count-all l =
      let e : a ≡ size t = omega (arith, c.below) in (
        c.sum ∙ rw e (ap length (below_all t)),
        record { long = c.long; none = λ k m z. no_length (race_row t k) (sym (c.noted k (omega (arith, e))) ∙ z) },
      )
    where
      no_length : (r : List ℕ) → length r ≡ 0 → r ≡ []
      no_length [] e = refl
      no_length (x ∷ r) e = absurd (omega (arith, e))

-- where nothing is known
pub hints-none : (t : Trace) → size t ≤ 1024 → Hints t (replicate 1024 1)
hints-none t s =
    record {
      long = length-replicate {A = ℕ} 1024 1;
      none = λ a l e. absurd (omega (arith, e, get_or-replicate {A = ℕ} 1024 a 1 0 (omega arith)));
    }

-- ---- writing

-- the races whose lower operation is below a are written to the two lists
pub record RowsWritten (t : Trace) (a at : ℕ) (lower lower-now higher higher-now : List ℕ) : Type 0 where
  pub below : a ≤ size t
  pub low : Written at (lowers (races_below t a)) lower lower-now
  pub high : Written at (highers (races_below t a)) higher higher-now

pub rows_none : (t : Trace) (lower higher : List ℕ) → RowsWritten t 0 0 lower lower higher higher
rows_none t lower higher =
    record {
      below = omega arith;
      low = rw (below-start t) (written_none lower);
      high = rw (below-start t) (written_none higher);
    }

-- the lower and the higher operations of a row
row-lowers : (a : ℕ) (l : List ℕ) → lowers (map (pair a) l) ≡ replicate (length l) a
row-lowers a [] = refl
row-lowers a (b ∷ l) = ap (λ (r : List ℕ). a ∷ r) (row-lowers a l)

row-highers : (a : ℕ) (l : List ℕ) → highers (map (pair a) l) ≡ l
row-highers a [] = refl
row-highers a (b ∷ l) = ap (λ (r : List ℕ). b ∷ r) (row-highers a l)

-- `part`, the first `count` elements of `new`, is written behind what is written
pub pasted-written : {A : Type 0} {at count : ℕ} {old now before : List A} (new part : List A)
    → Written at before old now → length part ≡ count → take count new ≡ part → at + count ≤ length old
    → Written (at + count) (before ++ part) old (paste now at new count)
pasted-written {at = at} {count} {old} {now} new part w e f l =
    rw (f, append_assoc, ← drop-drop count at now) (written-part w part e l)

module _ {t : Trace} {a at : ℕ} {lower lower-now higher higher-now : List ℕ}
    (w : RowsWritten t a at lower lower-now higher higher-now) where
  rows_at : at ≡ length (races_below t a)
  rows_at = sym w.low.place ∙ length-map (races_below t a) (λ (r : Race). r.lower)

  -- a row more has room
  module _ {more : ℕ} {row_now : List ℕ} (l : a < size t) (r : RowHolds (race_row t a) more row_now) where
    pub rows-room : at + more ≤ race_count t
    rows-room = omega (arith, rows_at, below-count t a, row_count r, below-few t (suc a) (omega arith))

    pub rows_more : {lower-next higher-next : List ℕ} → race_count t ≤ length lower → race_count t ≤ length higher
        → lower-next ≡ paste lower-now at (replicate more a) more → higher-next ≡ paste higher-now at row_now more
        → RowsWritten t (a + 1) (at + more) lower lower-next higher higher-next
    rows_more i j e f =
        record {
          below = omega arith;
          low = rw (add-one, e, row_more (λ r. r.lower), row-lowers, count) low;
          high = rw (add-one, f, row_more (λ r. r.higher), row-highers) high;
        }
      where
        count : length (race_row t a) ≡ more
        count = row_count r

        row_more : (number : Race → ℕ) → map number (races_below t (suc a))
            ≡ map number (races_below t a) ++ map number (map (pair a) (race_row t a))
        row_more number = rw (below_next t a) (map-append number (races_below t a) (map (pair a) (race_row t a)))

        low : Written (at + more) (lowers (races_below t a) ++ replicate more a) lower
            (paste lower-now at (replicate more a) more)
        low =
            let long = length-replicate more a in
            pasted-written (replicate more a) (replicate more a) w.low long
            (take_all more (replicate more a) (omega (arith, long)))
            (omega (arith, rows-room))

        high : Written (at + more) (highers (races_below t a) ++ race_row t a) higher (paste higher-now at row_now more)
        high = pasted-written row_now (race_row t a) w.high count r.front (omega (arith, rows-room))

  -- ---- the end

  pub rows_all : size t ≤ a → AllWritten t at lower lower-now higher higher-now
  rows_all l =
      let last : a ≡ size t = omega (arith, w.below) in
      let e : races_below t a ≡ race_list t = rw last (below_all t) in
      record {
        counts = rows_at ∙ ap length e;
        all_lower = rw e at w.low.whole;
        all_higher = rw e at w.high.whole;
      }
