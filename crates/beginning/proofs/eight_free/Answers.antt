-- `eight_free` meets its contract: where the first i of the eight are free, neither number appears before at + i.
-- Assumes nothing.
use native.Mathlib.Omega.{arith}
use Prim.Native.Nat.{◌+◌}
use Rattle.beginning.proofs.Lengths.{eight-more}
use Rattle.beginning.proofs.eight_free.Goals as goal

pub loop-i-preserved : goal.loop-i-preserved
loop-i-preserved c =
    let small = c.type_inv.list (c.args.at + c.loop-i.i) in
    let more = eight-more _ _ c.loop-i.invariant (omega arith) (omega arith) c.both.ensures in
    more c.both-free.ensures
