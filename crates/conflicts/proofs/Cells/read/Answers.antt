-- `read` meets its contract. Assumes nothing.
use native.Mathlib.Omega.{arith}
use borrow.Author.Rules.{rules}
use Rattle.trace.specs.Trace.{is_write}
use Rattle.conflicts.proofs.CellTests.{operation-fits}
use Rattle.conflicts.proofs.ReadingCells.{mark-fits, read_more}
use Rattle.conflicts.proofs.Cells.read.Goals as goal

pub add_bit-requires : goal.add_bit-requires
add_bit-requires c =
    let h = c.args.trace.now.holds in
    mark-fits c.requires.0 (omega (arith, c.requires.1, h.count, h.few)) (is_write c.operation-o.result.kind)
    c.write_bit.ensures

pub returns : goal.returns
returns c =
    let h = c.args.trace.now.holds in
    let o = c.operation-o in
    let fits = operation-fits h (rw h.count at c.requires.1) o.ensures (search rules) in
    rw (c.first_cell.ensures, c.last_cell.ensures)
    (read_more c.requires.0 (omega (arith, c.requires.1, h.count, h.few)) (search rules) (search rules) (search rules)
    o.ensures fits c.place_of-at.ensures.0 c.write_bit.ensures c.add_bit.ensures)
