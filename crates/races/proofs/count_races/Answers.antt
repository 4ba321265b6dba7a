-- `count_races` meets its contract. The invariant: the races whose lower operation is below a are counted.
-- Assumes nothing.
use mathlib.Core.Path.{◌∙◌}
use native.Mathlib.Omega.{arith}
use borrow.Author.Rules.{rules}
use Rattle.trace.specs.Reading.{trace_of}
use Rattle.table_entries.proofs.TableEntries.{table-short}
use Rattle.races.proofs.PairWriting.{count_none, row_few, count-more, count-all}
use Rattle.races.proofs.count_races.Goals as goal

pub loop-a-init : goal.loop-a-init
loop-a-init c = (count_none _ (search rules), c.begin.ensures.0, c.begin.ensures.1 ∙ c.of-search.ensures.0, c.begin.ensures.2)

pub overflow_cast-counts : goal.overflow_cast-counts
overflow_cast-counts c =
    let filled = c.args.filled.now in
    let found = rw (c.loop-a.invariant.2, c.loop-a.invariant.3) at c.count_row-found.ensures.0 in
    omega (arith, found, table-short filled.holds, row_few (trace_of filled.trace.bytes.now) c.loop-a.a)

pub overflow_add-count : goal.overflow_add-count
overflow_add-count c =
    let filled = c.args.filled.now in
    let inv = c.loop-a.invariant.0 in
    let found = rw (c.loop-a.invariant.2, c.loop-a.invariant.3) at c.count_row-found.ensures.0 in
    omega (
      arith,
      inv.few,
      inv.below,
      found,
      table-short filled.holds,
      row_few (trace_of filled.trace.bytes.now) c.loop-a.a,
    )

pub loop-a-preserved : goal.loop-a-preserved
loop-a-preserved c =
    let filled = c.args.filled.now in
    let (inv, ready, same, next) = c.loop-a.invariant in
    let (found, goes, kept, on) = c.count_row-found.ensures in (
      count-more inv (table-short filled.holds) (omega (arith, c.loop-a-test.true, filled.trace.holds.count))
          (rw (same, next) at found),
      goes,
      kept ∙ same,
      rw next at on,
    )

pub returns : goal.returns
returns c =
    count-all c.loop-a.invariant.0 (omega (arith, c.args.filled.now.trace.holds.count, c.loop-a-test.false))
