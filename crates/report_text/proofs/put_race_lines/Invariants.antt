-- `put_race_lines` meets its contract: the lines of the first i races are placed.
-- Assumes nothing.
use Rattle.report_text.proofs.RaceLines.{LinesPlaced}
use Rattle.report_text.proofs.put_race_lines.Given as goal

abbrev pub invariant-loop-i : goal.invariant-loop-i
invariant-loop-i l = LinesPlaced l.initial.output l.at l.lower l.higher l.count l.i l.end l.output
