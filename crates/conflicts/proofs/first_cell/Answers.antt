-- `first_cell` meets its contract. Assumes nothing.
use Rattle.conflicts.specs.Cells.{first_cell}
use Rattle.conflicts.proofs.first_cell.Goals as goal

pub returns-then-is_access : goal.returns-then-is_access
unfolding first_cell
returns-then-is_access c = rw (← c.is_access.ensures, c.if-is_access.true)

pub returns : goal.returns
unfolding first_cell
returns c = rw (← c.is_access.ensures, c.if-is_access.false)
