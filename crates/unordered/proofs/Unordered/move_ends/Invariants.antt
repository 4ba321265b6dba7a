-- `move_ends` meets its contract. The invariant: the ends of the workers below q are right for a. Assumes nothing.
use Rattle.trace.specs.Reading.{trace_of}
use Rattle.unordered.specs.Kept.{AllRanks}
use Rattle.unordered.specs.Turns.{Turn}
use Rattle.unordered.proofs.Unordered.move_ends.Given as goal

abbrev pub invariant-loop-q : goal.invariant-loop-q
invariant-loop-q l =
    Turn (trace_of l.filled.trace.bytes.now) l.a l.w l.q l.self
    × AllRanks (trace_of l.filled.trace.bytes.now) l.filled.table.now l.self
