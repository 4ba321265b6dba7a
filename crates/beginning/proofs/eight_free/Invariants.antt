-- `eight_free` meets its contract: where the first i of the eight are free, neither number appears before at + i.
-- Assumes nothing.
use mathlib.Core.Bool.{true}
use mathlib.Core.Path.{◌≡◌}
use Prim.Native.Nat.{◌+◌}
use Rattle.beginning.specs.Searched.{Searched}
use Rattle.beginning.proofs.eight_free.Given as goal

abbrev pub invariant-loop-i : goal.invariant-loop-i
invariant-loop-i l = l.free ≡ true → Searched l.list l.x l.y (l.at + l.i)
