-- `meets` meets its contract. Assumes nothing.
use lib.Dec.{leb}
use Rattle.conflicts.specs.Cells.{meet}
use Rattle.conflicts.proofs.CellTests.{bit-and}
use Rattle.conflicts.proofs.meets.Goals as goal

pub returns : goal.returns
unfolding meet
returns c =
    rw (c.from.ensures, c.from-2.ensures)
    (bit-and (leb c.args.first c.args.other_last) (leb c.args.other_first c.args.last))
