-- `list` meets its contract. The invariant: the races with the operations below 32 v are listed. Assumes nothing.
use native.Mathlib.Omega.{arith}
use borrow.Author.Rules.{rules}
use Rattle.race_words.proofs.RowLoops.{listed_start, listed-room, listed_more, listed-end}
use Rattle.race_words.proofs.Row.list.Goals as goal

pub loop-v-init : goal.loop-v-init
loop-v-init c = listed_start (search rules)

pub list-at-requires : goal.list-at-requires
list-at-requires c =
    let h = c.args.self.now.trace.holds in
    listed-room c.loop-v.invariant (omega (arith, c.loop-v-test.true, c.div_ceil-v-end.ensures, h.few))

pub loop-v-preserved : goal.loop-v-preserved
loop-v-preserved c = listed_more c.loop-v.invariant c.word.ensures c.list-at.ensures

pub returns : goal.returns
returns c =
    let h = c.args.self.now.trace.holds in
    let note = c.args.self.now.ready.to_note in
    listed-end c.loop-v.invariant
    (omega (arith, c.loop-v.auto, c.div_ceil-v-end.ensures, note.inside, h.count, h.few))
    (omega (arith, c.loop-v-test.false, c.div_ceil-v-end.ensures, h.count))
