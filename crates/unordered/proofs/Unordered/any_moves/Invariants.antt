-- `any_moves` meets its contract. The invariant: where `any` is 0, nothing moves for the workers below q. Assumes
-- nothing.
use Rattle.trace.specs.Reading.{trace_of}
use Rattle.unordered.proofs.StillEnds.{Asked}
use Rattle.unordered.proofs.Unordered.any_moves.Given as goal

abbrev pub invariant-loop-q : goal.invariant-loop-q
invariant-loop-q l =
    Asked l.filled.table.now l.self (trace_of l.filled.trace.bytes.now).workers l.a l.w l.q l.any
