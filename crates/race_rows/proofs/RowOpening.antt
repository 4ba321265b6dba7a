-- A row is passed over: the next can be found, and it has no race.
use mathlib.Core.List.{List, []}
use mathlib.Core.Bool.{false, ◌&&◌}
use mathlib.Core.Logic.{inl, inr}
use mathlib.Core.Path.{◌≡◌, sym}
use native.Mathlib.Omega.{arith}
use Prim.Native.Nat.{ℕ, ◌+◌, ◌<◌}
use lib.Dec.{ltb}
use lib.ListN.{length}
use borrow.Author.Tests.{lt-ltb}
use Rattle.basics.proofs.Booleans.{less?}
use Rattle.trace.specs.Trace.{Trace, size, operation, is_access}
use Rattle.conflicts.specs.declared.Cells.{Cells}
use Rattle.meetings.specs.declared.Meetings.{Meetings}
use Rattle.unordered.specs.declared.Unordered.{Unordered}
use Rattle.unordered.specs.Kept.{low_of, high_of, Ends, Kept}
use Rattle.race_model.specs.RaceList.{is_race}
use Rattle.race_model.specs.RaceRows.{race_row, RowHolds}
use Rattle.race_model.proofs.RaceTests.{race-access}
use Rattle.words.proofs.Passing.{passing-none}
use Rattle.race_rows.specs.Rows.{Searching}

-- what holds for the operations from a on holds for those from the next on
kept_on : {t : Trace} {a : ℕ} {kept : Unordered} → Kept t a kept → Kept t (a + 1) kept
kept_on {t} {a} {kept} k = record { nexts = k.nexts; ends = ends; sets = λ w i o. k.sets w i o; rest = k.rest }
  where
    ends : (w q : ℕ) → w < t.workers → q < t.workers → Ends t (a + 1) w q (low_of kept w q) (high_of kept w q)
    ends w q i j =
        let e = k.ends w q i j in
        record {
          low_place = e.low_place;
          high_place = e.high_place;
          ascend = e.ascend;
          own = e.own;
          before = λ d x l y m. e.before d x l y (omega arith);
          not_after = λ d x l y m. e.not_after d x l y (omega arith);
        }

pub row-passed : {t : Trace} {table : List ℕ} {a : ℕ} {cells : Cells} {kept : Unordered} {seen : Meetings}
    → Searching t table a cells kept seen → Searching t table (a + 1) cells kept seen
row-passed s =
    record {
      cells_hold = s.cells_hold;
      carried = record { state = kept_on s.carried.state; ranks = s.carried.ranks };
      notes = s.notes;
    }

-- the row that comes next may be written otherwise
pub searching_at : {t : Trace} {table : List ℕ} {a b : ℕ} {cells : Cells} {kept : Unordered} {seen : Meetings} → b ≡ a
    → Searching t table a cells kept seen → Searching t table b cells kept seen
searching_at e s = rw e s

-- an operation that is no Read or Write has no race
pub row-no-access : (t : Trace) (a : ℕ) → is_access (operation t a).kind ≡ false → race_row t a ≡ []
row-no-access t a e = passing-none (is_race t a) (size t) (λ b l. race-access t a b e)

-- nor has one of which it is known
pub row-known : (t : Trace) (a some : ℕ) → (some ≡ 0 → race_row t a ≡ [])
    → ltb 0 some && is_access (operation t a).kind ≡ false → race_row t a ≡ []
row-known t a some h e = elim (less? 0 some) [
  | inl l ↦ row-no-access t a (rw (lt-ltb 0 some l) at e)
  | inr l ↦ h (omega arith)
]

pub row-empty : {numbers row : List ℕ} → length row ≡ 1024 → numbers ≡ [] → RowHolds numbers 0 row
row-empty e i = record { long = e; few = omega arith; front = sym i }
