-- `walk_on` meets its contract. The invariant: turns lead from the start to here. Assumes nothing.
use Rattle.walk.specs.Going.{Walked, left}
use Rattle.walk.proofs.Walk.walk_on.Given as goal

abbrev pub invariant-loop-ready : goal.invariant-loop-ready
invariant-loop-ready l =
    Walked l.list l.limits.ends l.limits.lasts l.initial.self.nexts l.initial.self.done l.initial.self.events
    l.initial.self.waiting l.start l.self.nexts l.self.done l.self.events l.self.waiting l.ready

abbrev pub decreases-loop-ready : goal.decreases-loop-ready
decreases-loop-ready l = left l.self.nexts l.ready
