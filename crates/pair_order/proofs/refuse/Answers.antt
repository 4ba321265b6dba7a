-- `refuse` meets its contract. Assumes nothing.
use mathlib.Core.Logic.{inl, inr}
use mathlib.Core.Path.{sym}
use Rattle.accept.proofs.Answers.{answer-accepts}
use Rattle.pair_order.proofs.Answers.{answer-high, answer-same, answer-unaccepted}
use Rattle.pair_order.proofs.refuse.Goals as goal
use Rattle.pair_order.proofs.refuse.Goals.{then-n-a-via-then-n-a, then-n-a-via-else-n-a+then-n-b}

pub returns-in-Err : goal.returns-in-Err
returns-in-Err c = answer-unaccepted _ _ _ (sym c.in-Err.ensures)

pub returns-then-n-a : goal.returns-then-n-a
returns-then-n-a c =
    let h = answer-accepts _ _ _ (sym c.in_default.ensures) in
    let holds = c.args.x.now.trace.holds in
    elim c.then-n-a.branch [
      | then-n-a-via-then-n-a w ↦ answer-high h.0 holds _ _ (inl w.if-n-a.true)
      | then-n-a-via-else-n-a+then-n-b w ↦ answer-high h.0 holds _ _ (inr w.if-n-b.true)
    ]

pub returns : goal.returns
returns c =
    let h = answer-accepts _ _ _ (sym c.in_default.ensures) in
    answer-same h.0 c.args.x.now.trace.holds _ _ c.requires c.if-n-a.false c.if-n-b.false
