-- `fill_worker` meets its contract. The invariant: the rows of the operations with fewer than `from` earlier ones
-- are written, and the walk is kept for that with `from`. Assumes nothing.
use Prim.Native.Nat.{◌-◌}
use lib.ListN.{set}
use Rattle.trace.specs.Reading.{trace_of}
use Rattle.table_rows.proofs.Keeping.{KeptFilling}
use Rattle.table_rows.proofs.fill_worker.Given as goal

abbrev pub invariant-loop-from : goal.invariant-loop-from
invariant-loop-from l =
    let x = l.x.index.now in
    let w = l.walk in
    KeptFilling (trace_of l.x.trace.bytes.now) x.starts x.list x.ends l.limits.lasts l.q l.from l.own w.nexts
    (set w.done l.q l.from) w.events w.waiting l.ready l.initial.table l.table

abbrev pub decreases-loop-from : goal.decreases-loop-from
decreases-loop-from l = l.last - l.from
