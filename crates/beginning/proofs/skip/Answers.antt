-- `skip` meets its contract: neither number appears before `at`.
-- Assumes nothing.
use native.Mathlib.Omega.{arith}
use Rattle.beginning.proofs.Indices.{index-fits}
use Rattle.beginning.proofs.skip.Goals as goal

pub overflow_sub-list : goal.overflow_sub-list
overflow_sub-list c =
    let args = c.args in
    omega (arith, index-fits args.list.now args.x, c.loop-at.invariant.x_later)
