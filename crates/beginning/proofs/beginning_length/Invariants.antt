-- `beginning_length` meets its contract: neither number appears in the first i numbers.
-- Assumes nothing.
use Rattle.beginning.specs.Searched.{Searched}
use Rattle.beginning.proofs.beginning_length.Given as goal

abbrev pub invariant-loop-i : goal.invariant-loop-i
invariant-loop-i l = Searched l.list l.chosen l.other l.i
