-- `conflict_word` meets its contract. Assumes nothing.
use mathlib.Core.Path.{refl}
use Rattle.conflicts.proofs.MetWords.{conflicts-in}
use Rattle.conflicts.proofs.Cells.conflict_word.Goals as goal

pub returns : goal.returns
returns c = conflicts-in refl c.joined.ensures c.common.ensures
