-- `put_count_line` meets its contract: a number behind its label, and the line's end.
-- Assumes nothing.
use Rattle.text.specs.Ascii.{ascii}
use Rattle.text.proofs.Placing.{room-first, placed-room, placed-then}
use Rattle.text.specs.Lines.{labelled, count_line}
use Rattle.text.proofs.put_count_line.Goals as goal

pub put_labelled-end-requires : goal.put_labelled-end-requires
unfolding count_line
put_labelled-end-requires c =
    let a = c.args in
    room-first a.text.now a.at (labelled a.label.now a.x) (ascii "\n") c.requires

pub put-requires : goal.put-requires
unfolding count_line
put-requires c =
    placed-room c.put_labelled-end.ensures (ascii "\n") c.requires

pub returns : goal.returns
unfolding count_line
returns c =
    placed-then c.put_labelled-end.ensures (ascii "\n") c.requires c.put.ensures
