-- `write_races` meets its contract. The invariant: the races whose lower operation is below a are written.
-- Assumes nothing.
use mathlib.Core.Path.{◌∙◌}
use native.Mathlib.Omega.{arith}
use Rattle.trace.specs.Reading.{trace_of}
use Rattle.race_rows.proofs.RowOpening.{searching_at}
use Rattle.race_list.proofs.RecordWriting.{over_none, rows-first, rows-over, rows_inside, row_fits, row-over, row_done}
use Rattle.race_list.proofs.write_races.Goals as goal

pub loop-at-init : goal.loop-at-init
loop-at-init c =
    let t = trace_of c.args.filled.now.trace.bytes.now in (
      rows-first t c.args.count,
      over_none t c.args.list.now,
      searching_at (omega (arith, c.begin.ensures.2)) c.begin.ensures.0,
      c.begin.ensures.1 ∙ c.of-search.ensures.0,
      omega (arith, c.begin.ensures.2),
    )

pub next_row-found-requires : goal.next_row-found-requires
next_row-found-requires c =
    let (all, room) = c.requires in
    let (done, over, ready, same, next) = c.loop-at.invariant in
    (ready, rw (same, next) (rows_inside all c.args.list.now room done c.loop-at-test.true))

pub write_row-requires : goal.write_row-requires
write_row-requires c =
    let (all, room) = c.requires in
    let (done, over, ready, same, next) = c.loop-at.invariant in
    let found = rw (same, next) at c.next_row-found.ensures.0 in
    (rw over (row_fits all c.args.list.now room done c.loop-at-test.true found).0, found.few)

pub loop-at-smaller : goal.loop-at-smaller
loop-at-smaller c =
    let (all, room) = c.requires in
    let inside = rows_inside all c.args.list.now room c.loop-at.invariant.0 c.loop-at-test.true in
    omega (arith, inside)

pub loop-at-preserved : goal.loop-at-preserved
loop-at-preserved c =
    let (all, room) = c.requires in
    let (done, over, ready, same, next) = c.loop-at.invariant in
    let (holds, goes, kept, on) = c.next_row-found.ensures in
    let found = rw (same, next) at holds in
    let old = c.args.list.now in (
      row_done all old room done c.loop-at-test.true found,
      rw (c.write_row.ensures, over) (row-over all old room done c.loop-at-test.true found),
      goes,
      kept ∙ same,
      rw next at on,
    )

pub returns : goal.returns
returns c =
    let (all, room) = c.requires in
    let (done, over, ready, same, next) = c.loop-at.invariant in
    rw over (rows-over all c.args.list.now room done c.loop-at-test.false)
