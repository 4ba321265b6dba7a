-- `pair_count` meets its contract. The invariant: the pairs of operations below k are counted, and how many operations
-- below k each worker has. Assumes nothing.
use mathlib.Core.Path.{refl}
use native.Mathlib.Omega.{arith}
use lib.ListN.{get_or-replicate}
use Rattle.pair_count.proofs.PairCounts.{paired_none, paired-seen, paired-more}
use Rattle.pair_count.proofs.pair_count.Goals as goal

pub loop-k-init : goal.loop-k-init
loop-k-init c = paired_none _ refl (λ q l. get_or-replicate 16 q 0 0 l)

pub overflow_sub-count : goal.overflow_sub-count
overflow_sub-count c = paired-seen _ c.loop-k.invariant _ c.worker-q.ensures.1

pub overflow_add-seen : goal.overflow_add-seen
overflow_add-seen c =
    let seen = paired-seen _ c.loop-k.invariant _ c.worker-q.ensures.1 in
    omega (arith, seen, c.args.trace.now.holds.few, c.loop-k-test.true)

pub loop-k-preserved : goal.loop-k-preserved
loop-k-preserved c =
    let h = c.args.trace.now.holds in
    paired-more _ c.loop-k.invariant c.worker-q.ensures.1 (omega (arith, h.count, c.loop-k-test.true))
    (omega (arith, h.count, h.few)) c.worker-q.ensures.0
