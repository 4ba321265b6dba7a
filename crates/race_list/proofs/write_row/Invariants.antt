-- `write_row` meets its contract. The invariant: the first i races are written. Assumes nothing.
use mathlib.Core.Path.{◌≡◌}
use Rattle.race_list.proofs.RecordWriting.{rowed}
use Rattle.race_list.proofs.write_row.Given as goal

abbrev pub invariant-loop-i : goal.invariant-loop-i
invariant-loop-i l = l.list ≡ rowed l.initial.list l.at l.lower l.row l.i
