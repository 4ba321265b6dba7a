-- `two_runs` meets its contract. Assumes nothing.
use mathlib.Core.Path.{sym}
use Rattle.std.proofs.lemmas.Result.{err_from_is_err_and}
use Rattle.accept.proofs.Accepting.{answer-unread}
use Rattle.two_runs.proofs.Answers.{call-refused, call-unpaired}
use Rattle.two_runs.proofs.two_runs.Goals as goal

pub returns-in_err-trace : goal.returns-in_err-trace
returns-in_err-trace c =
    let p = err_from_is_err_and c.from_residual.result c.from_residual.ensures.1 in
    rw (p.1, p.2) (call-refused _ _ _ _ _ (sym (answer-unread _ c.in_err-trace.ensures.opens)))

pub returns : goal.returns
returns c =
    let same = c.in_ok-trace.ensures.opens in
    call-unpaired _ _ _ _ _ (sym (rw same at c.refuse.ensures))
