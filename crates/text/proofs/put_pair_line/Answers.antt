-- `put_pair_line` meets its contract: two numbers behind their labels, and the line's end.
-- Assumes nothing.
use mathlib.Core.List.{◌++◌}
use Rattle.text.specs.Ascii.{ascii}
use Rattle.text.proofs.Placing.{room-first, placed-room, placed-room-first, placed-then}
use Rattle.text.specs.Lines.{labelled, pair_line}
use Rattle.text.proofs.put_pair_line.Goals as goal

pub put_labelled-middle-requires : goal.put_labelled-middle-requires
unfolding pair_line
put_labelled-middle-requires c =
    let a = c.args in
    let rest = labelled a.second.now a.y ++ ascii "\n" in
    room-first a.text.now a.at (labelled a.first.now a.x) rest c.requires

pub put_labelled-end-requires : goal.put_labelled-end-requires
unfolding pair_line
put_labelled-end-requires c =
    let second = labelled c.args.second.now c.args.y in
    placed-room-first c.put_labelled-middle.ensures second (ascii "\n") c.requires

pub put-requires : goal.put-requires
unfolding pair_line
put-requires c =
    let second = labelled c.args.second.now c.args.y in
    let room = placed-room c.put_labelled-middle.ensures (second ++ ascii "\n") c.requires in
    placed-room c.put_labelled-end.ensures (ascii "\n") room

pub returns : goal.returns
unfolding pair_line
returns c =
    let second = labelled c.args.second.now c.args.y in
    let room = placed-room c.put_labelled-middle.ensures (second ++ ascii "\n") c.requires in
    placed-then c.put_labelled-middle.ensures (second ++ ascii "\n") c.requires
    (placed-then c.put_labelled-end.ensures (ascii "\n") room c.put.ensures)
