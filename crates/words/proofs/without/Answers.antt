-- `without` meets its contract. Assumes nothing.
use Rattle.words.proofs.Sets.{without-one}
use Rattle.words.proofs.without.Goals as goal

pub returns : goal.returns
returns c = without-one c.args.x c.args.i c.ranges.x.fits c.requires
