-- `put_few` meets its contract. The invariant: the first q counts are written. Assumes nothing.
use native.Mathlib.Omega.{arith}
use Rattle.lent.proofs.Writing.{written-copy}
use Rattle.row_writer.proofs.put_few.Goals as goal

pub loop-q-preserved : goal.loop-q-preserved
loop-q-preserved c = written-copy c.args.done.now c.loop-q.invariant 0 (omega arith) (omega arith)
