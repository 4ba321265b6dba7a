-- `any_moves` meets its contract. The invariant: where `any` is 0, nothing moves for the workers below q. Assumes
-- nothing.
use native.Mathlib.Omega.{arith}
use Rattle.unordered.proofs.StillEnds.{ask-more}
use Rattle.unordered.proofs.Unordered.any_moves.Goals as goal

pub loop-q-preserved : goal.loop-q-preserved
loop-q-preserved c =
    let h = c.args.filled.now.trace.holds in
    ask-more c.loop-q.invariant (omega (arith, c.loop-q-test.true, h.workers, c.from-q-end.ensures))
    c.entry-entry.ensures.0 c.kept_due-due.ensures c.entry-own.ensures.0 c.kept_gone-gone.ensures
    c.moves_bit-any.ensures
