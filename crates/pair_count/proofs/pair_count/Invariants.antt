-- `pair_count` meets its contract. The invariant: the pairs of operations below k are counted, and how many operations
-- below k each worker has. Assumes nothing.
use Rattle.trace.specs.Reading.{trace_of}
use Rattle.pair_count.proofs.PairCounts.{Paired}
use Rattle.pair_count.proofs.pair_count.Given as goal

abbrev pub invariant-loop-k : goal.invariant-loop-k
invariant-loop-k l = Paired (trace_of l.trace.bytes.now) l.k l.seen l.count
