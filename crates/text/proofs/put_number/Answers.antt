-- `put_number` meets its contract: the digits are those of the number in decimal.
-- Assumes nothing.
use mathlib.Core.Path.{ap, ◌∙◌}
use Rattle.text.specs.Decimal.{decimal}
use Rattle.text.proofs.Decimals.{decimal-fewest}
use Rattle.text.proofs.put_number.Goals as goal

pub put-requires : goal.put-requires
put-requires c =
    let spelt = c.decimal-count.ensures in
    rw (spelt.digits ∙ decimal-fewest _ _ spelt.len ∙ ap decimal c.from.ensures) c.requires

pub returns : goal.returns
returns c =
    let spelt = c.decimal-count.ensures in
    rw (spelt.digits ∙ decimal-fewest _ _ spelt.len ∙ ap decimal c.from.ensures) at c.put.ensures
