-- `list` meets its contract. The invariant: the races with the operations below 32 v are listed. Assumes nothing.
use Rattle.trace.specs.Reading.{trace_of}
use Rattle.race_words.proofs.RowLoops.{ListedTo}
use Rattle.race_words.proofs.Row.list.Given as goal

abbrev pub invariant-loop-v : goal.invariant-loop-v
invariant-loop-v l = ListedTo (trace_of l.self.trace.bytes.now) l.self.a l.v l.row l.at
