-- `none` meets its contract. Assumes nothing.
use lib.ListN.{get_or-replicate}
use Rattle.conflicts.proofs.ReadingCells.{read-start}
use Rattle.conflicts.proofs.Cells.none.Goals as goal

pub returns : goal.returns
returns c = λ t. read-start (λ v l. get_or-replicate 32 v 0 0 l)
