-- `begin` meets its contract. The invariant: the workers below q are at their starts. Assumes nothing.
use mathlib.Core.Path.{◌≡◌}
use Rattle.courses.specs.Courses.{Begun, Unstarted}
use Rattle.courses.proofs.begin.Given as goal

abbrev pub invariant-loop-q : goal.invariant-loop-q
invariant-loop-q l =
    Begun l.index.starts l.walk.nexts l.limits.lasts l.q
    × (l.limits.ends ≡ l.index.ends)
    × Unstarted l.walk.done l.walk.events l.walk.waiting
