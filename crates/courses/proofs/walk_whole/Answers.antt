-- `walk_whole` meets its contract. Assumes nothing.
use Rattle.trace.specs.Trace.{size}
use Rattle.walk.proofs.Turns.{going-exhausted}
use Rattle.courses.proofs.Starting.{courses-whole, going_start}
use Rattle.courses.proofs.walk_whole.Goals as goal

pub returns : goal.returns
returns c =
    λ t f e x.
    let (begun, ends, none) = c.begin.ensures in
    let all = rw (← e) at c.below.ensures in
    let start = going_start f (courses-whole x begun) (λ q l. (begun.each q l).0) none all in
    let (s, g) = (rw ends at c.walk_on.ensures).going t (size t) 16 _ start in
    (s, going-exhausted f {r = s} g)
