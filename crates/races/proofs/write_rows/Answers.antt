-- `write_rows` meets its contract. The invariant: the races whose lower operation is below a are written.
-- Assumes nothing.
use mathlib.Core.Path.{◌∙◌}
use native.Mathlib.Omega.{arith}
use Rattle.races.proofs.PairWriting.{table-few, rows_none, rows-room, rows_more, rows_all}
use Rattle.races.proofs.write_rows.Goals as goal

pub loop-a-init : goal.loop-a-init
loop-a-init c = (rows_none _ _ _, c.begin.ensures.0, c.begin.ensures.1 ∙ c.of-search.ensures.0, c.begin.ensures.2)

pub fill-requires : goal.fill-requires
fill-requires c =
    let h = c.args.filled.now.trace.holds in
    let (inv, ready, same, next) = c.loop-a.invariant in
    let listed = rw (same, next) at c.list_row-count.ensures.0 in
    let room = rows-room inv (omega (arith, h.count, c.loop-a-test.true)) listed in
    omega (arith, room, c.requires.1, inv.low.size)

pub copy-requires : goal.copy-requires
copy-requires c =
    let h = c.args.filled.now.trace.holds in
    let (inv, ready, same, next) = c.loop-a.invariant in
    let listed = rw (same, next) at c.list_row-count.ensures.0 in
    let room = rows-room inv (omega (arith, h.count, c.loop-a-test.true)) listed in
    (omega (arith, room, c.requires.2, inv.high.size), listed.few)

pub loop-a-preserved : goal.loop-a-preserved
loop-a-preserved c =
    let h = c.args.filled.now.trace.holds in
    let (inv, ready, same, next) = c.loop-a.invariant in
    let (listed, goes, kept, on) = c.list_row-count.ensures in (
      rows_more inv (omega (arith, h.count, c.loop-a-test.true)) (rw (same, next) at listed) c.requires.1 c.requires.2
          c.fill.ensures c.copy.ensures,
      goes,
      kept ∙ same,
      rw next at on,
    )

pub overflow_cast-result : goal.overflow_cast-result
overflow_cast-result c =
    let filled = c.args.filled.now in
    let written = rows_all c.loop-a.invariant.0 (omega (arith, filled.trace.holds.count, c.loop-a-test.false)) in
    omega (arith, written.counts, table-few filled.holds)

pub returns : goal.returns
returns c = rows_all c.loop-a.invariant.0 (omega (arith, c.args.filled.now.trace.holds.count, c.loop-a-test.false))
