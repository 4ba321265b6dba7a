-- `operation_in` meets its contract. Assumes nothing.
use lib.Seq.{get_or-drop, drop-drop}
use Rattle.trace.specs.Questions.{operation_in}
use Rattle.trace.proofs.operation_in.Goals as goal

pub returns : goal.returns
unfolding operation_in
returns c = simp (get_or-drop, drop-drop, c.number16.ensures, c.number32.ensures)
