-- `fill` meets its contract. The invariant: the cells of the operations below k are read. Assumes nothing.
use native.Mathlib.Omega.{arith}
use lib.ListN.{get_or-replicate}
use Rattle.conflicts.proofs.ReadingCells.{read-start, read-end}
use Rattle.conflicts.proofs.Cells.fill.Goals as goal

pub loop-k-init : goal.loop-k-init
loop-k-init c = read-start (λ v l. get_or-replicate 32 v 0 0 l)

pub returns : goal.returns
returns c =
    let h = c.args.trace.now.holds in
    read-end c.loop-k.invariant (omega (arith, c.loop-k-test.false, h.count)) (omega (arith, h.count, h.few))
