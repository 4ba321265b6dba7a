-- `runs_between` meets its contract. Assumes nothing.
use mathlib.Core.Logic.{inr}
use mathlib.Core.Path.{sym, ◌∙◌}
use Rattle.std.proofs.lemmas.Result.{err_from_is_err_and}
use Rattle.accept.proofs.Answers.{answer-accepts}
use Rattle.pair_order.proofs.Answers.{accepted-pair}
use Rattle.two_runs.proofs.Answers.{call-ordered, call-refused}
use Rattle.two_runs.proofs.Found.{run-found}
use Rattle.two_runs.proofs.runs_between.Goals as goal

pub returns-in_err-accept_if_done : goal.returns-in_err-accept_if_done
returns-in_err-accept_if_done c =
    let p = err_from_is_err_and c.from_residual.result c.from_residual.ensures.1 in
    rw (p.1, p.2) (call-refused _ _ _ _ _ (sym c.in_err-accept_if_done.ensures))

pub returns-then-must_precede : goal.returns-then-must_precede
returns-then-must_precede c =
    let h = answer-accepts _ _ _ (sym c.in_ok-accept_if_done.ensures) in
    call-ordered _ _ _ _ _ (accepted-pair h.0 c.args.x.now.trace.holds _ _ c.requires)
    (inr (sym c.must_precede.ensures ∙ c.if-must_precede.true))

pub runs_if_unordered-requires : goal.runs_if_unordered-requires
runs_if_unordered-requires c =
    let h = answer-accepts _ _ _ (sym c.in_ok-accept_if_done.ensures) in (
      h.0,
      c.requires,
      sym c.must_precede.ensures ∙ c.if-must_precede.false,
      run-found h.0 c.args.x.now.trace.holds c.find_run-end.ensures,
    )
