-- `fill` meets its contract. The invariant: the rows of the workers below q are filled. Assumes nothing.
use lib.ListN.{get_or}
use Rattle.trace.specs.Reading.{trace_of}
use Rattle.table_rows.specs.Filling.{RowsTo}
use Rattle.table_rows.proofs.fill.Given as goal

abbrev pub invariant-loop-q : goal.invariant-loop-q
invariant-loop-q l =
    let starts = l.x.index.now.starts in
    RowsTo (trace_of l.x.trace.bytes.now) starts (get_or starts l.q 0) l.initial.table l.table
