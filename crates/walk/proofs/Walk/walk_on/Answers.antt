-- `walk_on` meets its contract. The invariant: turns lead from the start to here. Assumes nothing.
use Rattle.walk.proofs.Turns.{walked-turn}
use Rattle.walk.proofs.Walk.walk_on.Goals as goal

pub loop-ready-preserved : goal.loop-ready-preserved
loop-ready-preserved c =
    walked-turn c.loop-ready.invariant c.turn-ready.ensures
