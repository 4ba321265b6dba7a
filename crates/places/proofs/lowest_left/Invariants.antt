-- `lowest_left` meets its contract. The invariant: the lowest of the workers below q. Assumes nothing.
use mathlib.Core.Path.{◌≡◌}
use Rattle.trace.specs.Trace.{Trace}
use Rattle.index.specs.Indexed.{Places}
use Rattle.states.specs.States.{lowest_left}
use Rattle.places.proofs.lowest_left.Given as goal

abbrev pub invariant-loop-q : goal.invariant-loop-q
invariant-loop-q l =
    (t : Trace) → Places t l.n l.index.order l.index.starts → l.p ≡ t.workers → l.least ≡ lowest_left t l.done l.q
