-- `with` meets its contract. Assumes nothing.
use Rattle.words.proofs.Sets.{with-one}
use Rattle.words.proofs.with.Goals as goal

pub returns : goal.returns
returns c = with-one c.args.x c.args.i c.requires
