-- `write_record` meets its contract: the record's bytes, one by one. Assumes nothing.
use mathlib.Core.Path.{◌≡◌, ◌∙◌}
use native.Mathlib.Omega.{arith}
use Prim.Native.Nat.{◌≤◌, ◌<◌}
use lib.ListN.{length}
use lib.Seq.{take_all}
use borrow.Author.Rules.{rules}
use Rattle.trace.specs.Form.{base, record_size}
use Rattle.lent.proofs.Writing.{written-copy, written_all}
use Rattle.records.proofs.write_record.Goals as goal

pub loop-i-preserved : goal.loop-i-preserved
loop-i-preserved c =
    let bytes = c.record_of-bytes.result in
    let long : length bytes ≡ record_size base = search rules in
    let inside : c.loop-i.i < length bytes = omega (arith, long, c.requires, c.loop-i-test.true) in
    written-copy bytes c.loop-i.invariant 0 inside (omega (arith, c.loop-i.invariant.size, c.loop-i-test.true))

pub returns : goal.returns
returns c =
    λ rank.
    let bytes = c.record_of-bytes.result in
    let i = c.loop-i.i in
    let long : length bytes ≡ record_size base = search rules in
    let full : length bytes ≤ i = omega (arith, long, c.requires, c.loop-i-test.false) in
    written_all c.loop-i.invariant (omega (arith, c.loop-i.invariant.size, c.loop-i-test.false))
    ∙ take_all i bytes full ∙ c.record_of-bytes.ensures rank
