-- `entry_from` meets its contract. The invariant: the entries before s are passed. Assumes nothing.
use Rattle.courses.proofs.Filling.{Passed}
use Rattle.courses.proofs.entry_from.Given as goal

abbrev pub invariant-loop-s : goal.invariant-loop-s
invariant-loop-s l = Passed l.list l.from l.end l.prior l.s
