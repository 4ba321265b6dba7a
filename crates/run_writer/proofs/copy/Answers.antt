-- `copy` meets its contract. The invariant: the first i numbers are copied. Assumes nothing.
use mathlib.Core.Path.{◌≡◌, ◌∙◌}
use native.Mathlib.Omega.{arith}
use Prim.Native.Nat.{◌≤◌, ◌<◌}
use lib.ListN.{length}
use lib.Seq.{take_all}
use Rattle.lent.proofs.Writing.{written-copy, written_all}
use Rattle.run_writer.proofs.copy.Goals as goal

pub loop-i-preserved : goal.loop-i-preserved
loop-i-preserved c =
    let from = c.args.from.now in
    let inside : c.loop-i.i < length from = omega (arith, c.requires, c.loop-i-test.true) in
    written-copy from c.loop-i.invariant 0 inside (omega (arith, c.loop-i.invariant.size, c.loop-i-test.true))

pub returns : goal.returns
returns c =
    let from = c.args.from.now in
    let i = c.loop-i.i in
    let full : length from ≤ i = omega (arith, c.requires, c.loop-i-test.false) in
    written_all c.loop-i.invariant (omega (arith, c.loop-i.invariant.size, c.loop-i-test.false)) ∙ take_all i from full
