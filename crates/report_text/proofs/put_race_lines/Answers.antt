-- `put_race_lines` meets its contract: the lines of the first i races are placed.
-- Assumes nothing.
use Rattle.report_text.proofs.RaceLines.{lines_none, lines_more}
use Rattle.report_text.proofs.put_race_lines.Goals as goal

pub loop-i-init : goal.loop-i-init
loop-i-init c = lines_none _ _ _ _ _

pub loop-i-preserved : goal.loop-i-preserved
loop-i-preserved c =
    let line = c.put_race_line-end.ensures in
    lines_more c.requires c.loop-i.invariant c.loop-i-test.true line.0 line.1
