-- `is_missing` meets its contract. Assumes nothing.
use Rattle.events.proofs.EventBits.{shift-missing}
use Rattle.events.proofs.is_missing.Goals as goal

pub returns : goal.returns
returns c = shift-missing _ c.args.e c.args.need c.requires.1 (rw c.from.ensures)
