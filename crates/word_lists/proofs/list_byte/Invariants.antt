-- `list_byte` meets its contract. The invariant: the first j numbers stand in the row. Assumes nothing.
use Rattle.word_lists.proofs.Lists.{ByteBelow}
use Rattle.word_lists.proofs.list_byte.Given as goal

abbrev pub invariant-loop-j : goal.invariant-loop-j
invariant-loop-j l = ByteBelow l.x l.first l.at l.initial.row l.j l.row
