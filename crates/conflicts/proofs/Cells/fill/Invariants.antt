-- `fill` meets its contract. The invariant: the cells of the operations below k are read. Assumes nothing.
use Rattle.trace.specs.Reading.{trace_of}
use Rattle.conflicts.specs.Cells.{CellsRead}
use Rattle.conflicts.proofs.Cells.fill.Given as goal

abbrev pub invariant-loop-k : goal.invariant-loop-k
invariant-loop-k l = CellsRead (trace_of l.trace.bytes.now) l.k l.self
