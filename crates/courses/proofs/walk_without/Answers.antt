-- `walk_without` meets its contract. Assumes nothing.
use Rattle.walk.proofs.Turns.{going-exhausted}
use Rattle.courses.proofs.Starting.{without-sized, going-without}
use Rattle.courses.proofs.walk_without.Goals as goal

pub walk_on-requires : goal.walk_on-requires
walk_on-requires c = without-sized c.begin_without.ensures.0

pub returns : goal.returns
returns c =
    λ t a x.
    let (y, none) = c.begin_without.ensures in
    let (s, g) = c.walk_on.ensures.going t a 16 _ (going-without x y none c.below.ensures) in
    (s, going-exhausted x.fits g)
