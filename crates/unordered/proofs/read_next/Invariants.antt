-- `read_next` meets its contract. The invariant: the operations from k on are read. Assumes nothing.
use Rattle.trace.specs.Reading.{trace_of}
use Rattle.unordered.specs.Beginning.{ReadFrom}
use Rattle.unordered.proofs.read_next.Given as goal

abbrev pub invariant-loop-k : goal.invariant-loop-k
invariant-loop-k l = ReadFrom (trace_of l.trace.bytes.now) l.k l.next l.firsts
