-- `put_few` meets its contract. The invariant: the first q counts are written. Assumes nothing.
use lib.ListN.{take}
use Rattle.lent.proofs.Writing.{Written}
use Rattle.row_writer.proofs.put_few.Given as goal

abbrev pub invariant-loop-q : goal.invariant-loop-q
invariant-loop-q l = Written l.q (take l.q l.done) l.initial.part l.part
