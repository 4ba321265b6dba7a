-- `accept_if_complete` meets its contract. Assumes nothing.
use native.Mathlib.Omega.{arith}
use Rattle.trace.proofs.Fitting.{trace-fits}
use Rattle.accept.proofs.Accepting.{handed-opens}
use Rattle.accept.proofs.accept_if_complete.Goals as goal

pub walk_whole-end-requires : goal.walk_whole-end-requires
walk_whole-end-requires c =
    let x = c.args.x.now in
    (omega (arith, x.trace.holds.most), handed-opens x.trace.holds x.handed)

pub accept_if_done-requires : goal.accept_if_done-requires
accept_if_done-requires c =
    let x = c.args.x.now in
    let h = x.trace.holds in
    let (run, end) = c.walk_whole-end.ensures _ (trace-fits h) h.workers x.handed.listed in
    (x.handed.indexed, record { run = run; events = _; exhausted = end })
