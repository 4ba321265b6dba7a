-- `post` meets its contract. Assumes nothing.
use Rattle.events.proofs.EventBits.{shift-set}
use Rattle.events.proofs.post.Goals as goal

pub returns : goal.returns
returns c = shift-set c.args.e _
