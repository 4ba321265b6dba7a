-- `fill` meets its contract. The invariant: the rows of the workers below q are filled. Assumes nothing.
use native.Mathlib.Omega.{arith}
use Rattle.table_rows.proofs.Filling.{workers-all}
use Rattle.table_rows.proofs.fill.Goals as goal

pub loop-q-preserved : goal.loop-q-preserved
loop-q-preserved c = c.fill_worker.ensures _ c.loop-q.invariant

pub returns : goal.returns
returns c =
    let x = c.args.x.now in
    let end = c.from-q-end.ensures in
    workers-all x.trace.holds x.handed.indexed c.loop-q.invariant
    (omega (arith, c.loop-q-test.false, c.loop-q.auto.q-end, end)) c.requires.room
