-- `with` meets its contract. Assumes nothing.
use Rattle.masks.proofs.Sets.{with-one}
use Rattle.masks.proofs.with.Goals as goal

pub returns : goal.returns
returns c = with-one c.args.set c.args.q c.requires
