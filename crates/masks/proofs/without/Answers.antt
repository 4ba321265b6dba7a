-- `without` meets its contract. Assumes nothing.
use Rattle.masks.proofs.Sets.{without-one}
use Rattle.masks.proofs.without.Goals as goal

pub returns : goal.returns
returns c = without-one c.args.set c.args.q c.requires.0 c.requires.1
