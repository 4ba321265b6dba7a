-- `order_between` meets its contract: the sign is read back from its eight bits, in which it fits. Assumes nothing.
use mathlib.Core.Path.{sym, ◌∙◌}
use native.Mathlib.Omega.{arith}
use mir.Syntax.{w8}
use Rattle.std.proofs.lemmas.Int.{ints, to_z-of_z}
use Rattle.std.proofs.lemmas.Result.{err_from_is_err_and}
use Rattle.accept.proofs.Answers.{answer-accepts}
use Rattle.pair_order.proofs.Answers.{ordered-before, answer-ordered, answer-unaccepted}
use Rattle.pair_order.proofs.Answers.{readable, readable-operations, readable-opens, readable-left-out, worker-low}
use Rattle.pair_order.proofs.order_between.Goals as goal

pub walk_twice-end-requires : goal.walk_twice-end-requires
walk_twice-end-requires c =
    let x = readable c.args.x.now in
    let low = worker-low (readable-operations x) c.requires.first_below c.worker.ensures.0 in
    (x.holds.most, low.0, readable-opens x)

pub accept_if_done-requires : goal.accept_if_done-requires
accept_if_done-requires c =
    let x = readable c.args.x.now in
    let left = readable-left-out x c.requires.first_below c.worker.ensures.0 c.count_prior-prior.ensures in
    (x.handed.indexed, (c.walk_twice-end.ensures _ _ left).1)

pub must_precede-requires : goal.must_precede-requires
must_precede-requires c =
    let x = readable c.args.x.now in
    let y = c.requires in
    let left = readable-left-out x y.first_below c.worker.ensures.0 c.count_prior-prior.ensures in
    (x.handed.indexed, (c.walk_twice-end.ensures _ _ left).0, y.second_below, y.differ)

pub returns-in_err-accept_if_done : goal.returns-in_err-accept_if_done
returns-in_err-accept_if_done c =
    let p = err_from_is_err_and c.from_residual.result c.from_residual.ensures.1 in
    rw (p.1, p.2) (answer-unaccepted _ _ _ (sym c.in_err-accept_if_done.ensures))

pub returns-then-must_precede : goal.returns-then-must_precede
returns-then-must_precede c =
    let h = answer-accepts _ _ _ (sym c.in_ok-accept_if_done.ensures) in
    answer-ordered h.0 c.args.x.now.trace.holds _ _ c.requires
    (ordered-before _ _ _ c.must_precede.ensures c.if-must_precede.true)

pub returns : goal.returns
returns c =
    let h = answer-accepts _ _ _ (sym c.in_ok-accept_if_done.ensures) in
    let kept = to_z-of_z w8 c.order_back.result (omega (arith, ints)) in
    answer-ordered h.0 c.args.x.now.trace.holds _ _ c.requires (kept ∙ c.order_back.ensures)
