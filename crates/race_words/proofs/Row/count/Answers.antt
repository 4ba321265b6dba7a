-- `count` meets its contract. The invariant: the races with the operations below 32 v are counted. Assumes nothing.
use native.Mathlib.Omega.{arith}
use Rattle.race_words.proofs.RowLoops.{counted_start, counted-few, counted-more, counted-end}
use Rattle.race_words.proofs.Row.count.Goals as goal

pub loop-v-init : goal.loop-v-init
loop-v-init c = counted_start

pub overflow_add-count : goal.overflow_add-count
overflow_add-count c =
    omega (
      arith,
      c.args.self.now.ready.to_note.few,
      c.args.self.now.trace.holds.few,
      counted-few c.loop-v.invariant,
      c.loop-v-test.true,
      c.div_ceil-v-end.ensures,
      c.count.type_inv,
    )

pub loop-v-preserved : goal.loop-v-preserved
loop-v-preserved c = counted-more c.loop-v.invariant c.word.ensures c.count.ensures

pub returns : goal.returns
returns c =
    let h = c.args.self.now.trace.holds in
    counted-end c.loop-v.invariant (omega (arith, c.loop-v-test.false, c.div_ceil-v-end.ensures, h.count))
