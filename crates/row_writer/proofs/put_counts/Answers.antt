-- `put_counts` meets its contract: two parts that may overlap are the whole row. Assumes nothing.
use Rattle.std.proofs.Common.{arith}
use Rattle.std.proofs.lemmas.Grind.{common_steps}
use Rattle.row_writer.proofs.put_counts.Goals as goal

pub returns-then-p-ge8 : goal.returns-then-p-ge8
returns-then-p-ge8 c = grind (arith, common_steps)

pub returns-then-p-ge4 : goal.returns-then-p-ge4
returns-then-p-ge4 c = grind (arith, common_steps)
