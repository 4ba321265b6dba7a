-- `put_rows` meets its contract. The invariant: the rows up to m are written. Assumes nothing.
use mathlib.Core.Path.{◌≡◌}
use native.Mathlib.Omega.{arith}
use borrow.Author.Rules.{rules}
use Rattle.table_rows.proofs.Stretch.{room-counts, along-next}
use Rattle.table_rows.proofs.put_rows.Goals as goal

pub loop-m-preserved : goal.loop-m-preserved
loop-m-preserved c =
    let row = rw (c.from-k.ensures, c.from-first.ensures) at c.put_row.ensures in
    let room = room-counts (search rules) c.requires in
    along-next room c.loop-m.invariant c.loop-m.auto.m c.loop-m-test.true row

pub returns : goal.returns
returns c =
    let e : c.loop-m.m ≡ c.args.to = omega (arith, c.loop-m.auto.m-end c.requires.up, c.loop-m-test.false) in
    rw e at c.loop-m.invariant
