-- `meet_block` meets its contract. The invariant: the four words hold the bits from j on. Assumes nothing.
use Rattle.conflicts.proofs.MetWords.{FourWords}
use Rattle.conflicts.proofs.Cells.meet_block.Given as goal

abbrev pub invariant-loop-j : goal.invariant-loop-j
invariant-loop-j l = FourWords l.self l.first l.last l.base l.j l.x0 l.x1 l.x2 l.x3
