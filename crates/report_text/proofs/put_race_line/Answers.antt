-- `put_race_line` meets its contract: a line of two numbers of 16 bits.
-- Assumes nothing.
use native.Mathlib.Omega.{arith}
use Rattle.report_text.proofs.Lines.{race-line-length}
use Rattle.report_text.proofs.put_race_line.Goals as goal

pub put_pair_line-requires : goal.put_pair_line-requires
put_pair_line-requires c =
    let short = race-line-length c.from-lower.result c.from-higher.result (omega arith) (omega arith) in
    omega (arith, short, c.requires)

pub returns : goal.returns
returns c =
    let short = race-line-length c.from-lower.result c.from-higher.result (omega arith) (omega arith) in
    rw (← c.from-lower.ensures, ← c.from-higher.ensures)
    (c.put_pair_line.ensures, omega (arith, short, c.put_pair_line.ensures.ends))
