-- `go_on` meets its contract. The invariant: the worker has gone on to entry `at`, and freed nobody who goes first.
-- Assumes nothing.
use mathlib.Core.Path.{◌≡◌}
use Rattle.masks.specs.Masks.{Apart}
use Rattle.index.specs.Steps.{reached}
use Rattle.walk.specs.Going.{Along}
use Rattle.walk.proofs.Walk.go_on.Given as goal

abbrev pub invariant-loop-at : goal.invariant-loop-at
invariant-loop-at l =
    Along l.list l.q l.below l.from l.end l.last l.initial.self.events l.initial.self.waiting l.self.events
    l.self.waiting l.at (reached l.list l.end l.last l.at) l.freed
    × Apart l.freed l.below
    × (l.self.nexts ≡ l.initial.self.nexts)
    × (l.self.done ≡ l.initial.self.done)
