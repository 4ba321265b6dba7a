-- `write_record` meets its contract: the record's bytes, one by one. Assumes nothing.
use lib.ListN.{take}
use Rattle.lent.proofs.Writing.{Written}
use Rattle.records.proofs.write_record.Given as goal

abbrev pub invariant-loop-i : goal.invariant-loop-i
invariant-loop-i l = Written l.i (take l.i l.bytes) l.initial.part l.part
