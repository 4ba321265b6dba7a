-- `walk_twice` meets its contract. Assumes nothing.
use mathlib.Core.List.{◌++◌}
use Rattle.trace.specs.Trace.{size}
use Rattle.walk.proofs.Turns.{going-exhausted}
use Rattle.courses.proofs.Starting.{without-sized, let-in-sized, going-without, going-let-in}
use Rattle.courses.proofs.walk_twice.Goals as goal

pub walk_on-requires : goal.walk_on-requires
walk_on-requires c = without-sized c.begin_without.ensures.0

pub walk_on-requires-2 : goal.walk_on-requires-2
walk_on-requires-2 c =
    let-in-sized c.begin_without.ensures.0 c.walk_on.ensures.sized c.let_in.ensures.0

pub returns : goal.returns
returns c =
    λ t a x.
    let (y, none) = c.begin_without.ensures in
    let (s, g) = c.walk_on.ensures.going t a 16 _ (going-without x y none c.below.ensures) in
    let own = going-let-in x y g c.let_in.ensures c.with.ensures in
    let (s', g') = c.walk_on-2.ensures.going t (size t) 16 _ own in (
      record { run = s; events = _; exhausted = going-exhausted x.fits g },
      record { run = s ++ s'; events = _; exhausted = going-exhausted x.fits g' },
    )
