-- `put_labelled` meets its contract: the number is placed behind the label.
-- Assumes nothing.
use Rattle.text.specs.Decimal.{decimal}
use Rattle.text.specs.Lines.{labelled}
use Rattle.text.proofs.Placing.{room-first, placed-room, placed-then}
use Rattle.text.proofs.put_labelled.Goals as goal

pub put-start-requires : goal.put-start-requires
unfolding labelled
put-start-requires c =
    let a = c.args in
    room-first a.text.now a.at a.label.now (decimal a.x) c.requires

pub put_number-requires : goal.put_number-requires
unfolding labelled
put_number-requires c =
    placed-room c.put-start.ensures (decimal c.args.x) c.requires

pub returns : goal.returns
unfolding labelled
returns c =
    placed-then c.put-start.ensures (decimal c.args.x) c.requires c.put_number.ensures
