-- `common` meets its contract. Assumes nothing.
use Rattle.words.proofs.Sets.{common-in}
use Rattle.words.proofs.common.Goals as goal

pub returns : goal.returns
returns c = common-in c.args.x c.args.y
