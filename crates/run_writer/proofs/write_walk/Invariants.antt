-- `write_walk` meets its contract. The invariant: what the walk has added is written. Assumes nothing.
use mathlib.Core.List.{List}
use Prim.Native.Nat.{ℕ, ◌≤◌}
use Rattle.trace.specs.Trace.{Trace}
use Rattle.index.specs.Indexed.{Places}
use Rattle.walk.specs.Going.{left}
use Rattle.run_writer.specs.Writing.{Written, Writing}
use Rattle.run_writer.proofs.write_walk.Given as goal

abbrev pub invariant-loop-ready : goal.invariant-loop-ready
invariant-loop-ready l =
    Writing l.index.order l.index.starts l.index.list l.limits.ends l.limits.lasts l.walk.nexts l.walk.done
    l.walk.events l.walk.waiting l.ready l.at l.run
    × ((t : Trace) (n a : ℕ) (base : List ℕ) → n ≤ 1024 → Places t n l.index.order l.index.starts
    → Written t a base l.index.list l.limits.ends l.limits.lasts l.initial.walk.nexts l.initial.walk.done
    l.initial.walk.events l.initial.walk.waiting l.start l.from l.initial.run
    → Written t a base l.index.list l.limits.ends l.limits.lasts l.walk.nexts l.walk.done l.walk.events
    l.walk.waiting l.ready l.at l.run)

abbrev pub decreases-loop-ready : goal.decreases-loop-ready
decreases-loop-ready l = left l.walk.nexts l.ready
