-- `fill_if_room` meets its contract. Assumes nothing.
use native.Mathlib.Omega.{arith}
use borrow.Author.Rules.{rules}
use Rattle.trace.proofs.Answers.{few-numbers}
use Rattle.order_table.proofs.Answers.{call-filled, call-short}
use Rattle.order_table.proofs.fill_if_room.Goals as goal

pub returns-then-n-p : goal.returns-then-n-p
returns-then-n-p c =
    rw c.counts.ensures
    (call-filled (c.requires, c.args.x.now.trace.holds) _ (omega (arith, c.if-n-p.true)) c.fill.ensures)

pub returns : goal.returns
returns c = call-short (c.requires, c.args.x.now.trace.holds) _ (omega (arith, c.if-n-p.false))
