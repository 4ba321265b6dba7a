-- `are_apart` meets its contract. Assumes nothing.
use borrow.Author.Tests.{eqb-true, eq-eqb}
use Rattle.masks.proofs.Sets.{and-apart}
use Rattle.masks.proofs.are_apart.Goals as goal

pub returns : goal.returns
returns c =
    let (forth, back) = and-apart c.args.x c.args.y c.ranges.x.fits in
    (λ e. forth (eqb-true _ 0 e), λ a. eq-eqb _ 0 (back a))
