-- `last_cell` meets its contract. Assumes nothing.
use Rattle.conflicts.specs.Cells.{last_cell}
use Rattle.conflicts.proofs.last_cell.Goals as goal

pub returns-then-is_access : goal.returns-then-is_access
unfolding last_cell
returns-then-is_access c = rw (← c.is_access.ensures, c.if-is_access.true, c.from.ensures)

pub returns : goal.returns
unfolding last_cell
returns c = rw (← c.is_access.ensures, c.if-is_access.false)
