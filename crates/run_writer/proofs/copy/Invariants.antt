-- `copy` meets its contract. The invariant: the first i numbers are copied. Assumes nothing.
use lib.ListN.{take}
use Rattle.lent.proofs.Writing.{Written}
use Rattle.run_writer.proofs.copy.Given as goal

abbrev pub invariant-loop-i : goal.invariant-loop-i
invariant-loop-i l = Written l.i (take l.i l.from) l.initial.to l.to
