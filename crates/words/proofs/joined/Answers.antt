-- `joined` meets its contract. Assumes nothing.
use Rattle.words.proofs.Sets.{joined_in}
use Rattle.words.proofs.joined.Goals as goal

pub returns : goal.returns
returns c = joined_in c.args.x c.args.y
