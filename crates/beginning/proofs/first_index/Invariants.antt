-- `first_index` meets its contract: x does not appear in the first i numbers.
-- Assumes nothing.
use Prim.Native.Nat.{◌≤◌}
use Rattle.beginning.specs.Computed.{first_index}
use Rattle.beginning.proofs.first_index.Given as goal

abbrev pub invariant-loop-i : goal.invariant-loop-i
invariant-loop-i l = l.i ≤ first_index l.list l.x
