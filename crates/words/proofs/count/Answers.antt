-- `count` meets its contract. Assumes nothing.
use Rattle.words.proofs.Sets.{count-in}
use Rattle.words.proofs.count.Goals as goal

pub returns : goal.returns
returns c = count-in c.args.x c.ranges.x.fits
