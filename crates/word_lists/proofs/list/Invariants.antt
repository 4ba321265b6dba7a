-- `list` meets its contract. The invariant: the numbers of the first k bytes are listed. Assumes nothing.
use Rattle.word_lists.proofs.Lists.{ListedBelow}
use Rattle.word_lists.proofs.list.Given as goal

abbrev pub invariant-loop-k : goal.invariant-loop-k
invariant-loop-k l = ListedBelow l.x l.first l.at l.initial.row l.k l.end l.row
