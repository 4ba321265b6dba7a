-- `lowest` meets its contract. Assumes nothing.
use Rattle.masks.proofs.Sets.{lowest-in}
use Rattle.masks.proofs.lowest.Goals as goal

pub returns : goal.returns
returns c = lowest-in c.args.set c.requires c.ranges.set.fits
