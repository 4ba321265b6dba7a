-- `meet_block` meets its contract. The invariant: the four words hold the bits from j on. Assumes nothing.
use mathlib.Core.Path.{refl}
use native.Mathlib.Omega.{arith}
use Rattle.conflicts.proofs.MetWords.{four-start, four-few, four-more, block-met}
use Rattle.conflicts.proofs.Cells.meet_block.Goals as goal

pub loop-j-init : goal.loop-j-init
loop-j-init c = four-start _ _ _ _

pub add_met-x0-requires : goal.add_met-x0-requires
add_met-x0-requires c =
    let inv = c.loop-j.invariant in
    (omega (arith, inv.few), (four-few inv c.loop-j-test.true).0)

pub add_met-x1-requires : goal.add_met-x1-requires
add_met-x1-requires c =
    let inv = c.loop-j.invariant in
    (omega (arith, inv.few, c.loop-j-test.true), (four-few inv c.loop-j-test.true).1)

pub add_met-x2-requires : goal.add_met-x2-requires
add_met-x2-requires c =
    let inv = c.loop-j.invariant in
    (omega (arith, inv.few, c.loop-j-test.true), (four-few inv c.loop-j-test.true).2)

pub add_met-x3-requires : goal.add_met-x3-requires
add_met-x3-requires c =
    let inv = c.loop-j.invariant in
    (omega (arith, inv.few, c.loop-j-test.true), (four-few inv c.loop-j-test.true).3)

pub loop-j-preserved : goal.loop-j-preserved
loop-j-preserved c =
    four-more c.loop-j.invariant c.loop-j-test.true refl c.add_met-x0.ensures c.add_met-x1.ensures
    c.add_met-x2.ensures c.add_met-x3.ensures

pub returns : goal.returns
returns c = block-met c.loop-j.invariant (omega (arith, c.loop-j-test.false))
