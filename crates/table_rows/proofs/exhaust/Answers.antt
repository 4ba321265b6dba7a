-- `exhaust` meets its contract. Assumes nothing.
use Rattle.walk.proofs.Turns.{walked_start}
use Rattle.table_rows.proofs.Stretch.{walked-own}
use Rattle.table_rows.proofs.exhaust.Goals as goal

pub returns-then-ready-ne0 : goal.returns-then-ready-ne0
returns-then-ready-ne0 c =
    walked-own c.args.q c.walk_on.ensures

pub returns-else-ready-ne0 : goal.returns-else-ready-ne0
returns-else-ready-ne0 c = (c.args.from, rw c.if-ready-ne0.false (walked_start c.requires.0))
