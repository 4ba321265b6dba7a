-- `put` meets its contract. The invariant: the first i counts are written. Assumes nothing.
use mathlib.Core.Path.{◌≡◌}
use lib.ListN.{drop}
use lib.Seq.{paste}
use Rattle.row_writer.proofs.put.Given as goal

abbrev pub invariant-loop-i : goal.invariant-loop-i
invariant-loop-i N l = l.part ≡ paste l.initial.part l.at (drop l.at l.done) l.i
