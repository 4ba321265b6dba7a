-- `first_ends` meets its contract. The invariant: the ends of the pairs below i are known. Assumes nothing.
use Rattle.unordered.specs.Beginning.{EndsSet}
use Rattle.unordered.proofs.first_ends.Given as goal

abbrev pub invariant-loop-i : goal.invariant-loop-i
invariant-loop-i l = EndsSet l.firsts l.i l.ends
