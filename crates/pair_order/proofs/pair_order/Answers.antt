-- `pair_order` meets its contract. Assumes nothing.
use mathlib.Core.Path.{sym}
use Rattle.std.proofs.lemmas.Result.{err_from_is_err_and}
use Rattle.accept.proofs.Accepting.{answer-unread}
use Rattle.pair_order.proofs.Answers.{answer-unaccepted}
use Rattle.pair_order.proofs.pair_order.Goals as goal

pub returns-in_err-trace : goal.returns-in_err-trace
returns-in_err-trace c =
    let p = err_from_is_err_and c.from_residual.result c.from_residual.ensures.1 in
    rw (p.1, p.2) (answer-unaccepted _ _ _ (sym (answer-unread _ c.in_err-trace.ensures.opens)))
