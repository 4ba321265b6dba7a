-- `carry_on` meets its contract: where nothing moves, the ends are right for a as they are. Assumes nothing.
use mathlib.Core.Path.{sym}
use Rattle.trace.specs.Reading.{trace_of}
use Rattle.unordered.specs.Kept.{IsOf}
use Rattle.unordered.proofs.Entries.{placed}
use Rattle.unordered.proofs.Results.{turn-done}
use Rattle.unordered.proofs.StillEnds.{still-done}
use Rattle.unordered.proofs.Unordered.carry_on.Goals as goal

pub returns-then-any_moves : goal.returns-then-any_moves
returns-then-any_moves c =
    let filled = c.args.filled.now in
    let turn : IsOf (trace_of filled.trace.bytes.now) c.worker-w.result c.args.a =
    record { below = c.requires.0; worker = sym c.worker-w.ensures.0 } in
    turn-done (placed filled.holds filled.trace.holds turn) c.move_ends.ensures.0 c.move_ends.ensures.1

pub returns-else-any_moves : goal.returns-else-any_moves
returns-else-any_moves c =
    let filled = c.args.filled.now in
    let turn : IsOf (trace_of filled.trace.bytes.now) c.worker-w.result c.args.a =
    record { below = c.requires.0; worker = sym c.worker-w.ensures.0 } in
    let place = placed filled.holds filled.trace.holds turn in
    turn-done place (still-done place c.requires.1 (c.any_moves.ensures c.if-any_moves.false)) c.requires.1.ranks
