-- `above` meets its contract. Assumes nothing.
use Rattle.words.proofs.Sets.{above_in}
use Rattle.words.proofs.above.Goals as goal

pub returns : goal.returns
returns c = above_in c.args.i c.requires
