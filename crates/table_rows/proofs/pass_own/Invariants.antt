-- `pass_own` meets its contract. The invariant: the steps before `at` have freed nobody. Assumes nothing.
use mathlib.Core.Path.{◌≡◌}
use Prim.Native.Nat.{ℕ}
use lib.ListN.{length}
use Rattle.table_rows.specs.Passing.{Passing, PassingOwn}
use Rattle.table_rows.proofs.pass_own.Given as goal

abbrev pub invariant-loop-at : goal.invariant-loop-at
invariant-loop-at l =
    ((q : ℕ) → Passing l.list q l.own l.end l.last l.initial.walk.events l.initial.walk.waiting l.walk.events
    l.walk.waiting l.at)
    × (l.walk.nexts ≡ l.initial.walk.nexts)
    × (l.walk.done ≡ l.initial.walk.done)
    × ((q : ℕ) → length l.initial.walk.events ≡ 4 → length l.initial.walk.waiting ≡ 256
    → PassingOwn l.list q l.own l.end l.last l.initial.walk.events l.initial.walk.waiting l.walk.events
    l.walk.waiting l.at)
