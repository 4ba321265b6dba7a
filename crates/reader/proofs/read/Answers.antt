-- `read` meets its contract. Assumes nothing.
use Rattle.std.proofs.lemmas.Result.{err_from_is_err_and}
use Rattle.reader.proofs.Answers.{refused-answer, read-answer}
use Rattle.reader.proofs.read.Goals as goal

pub returns-in_err-trace : goal.returns-in_err-trace
returns-in_err-trace c =
    let p = err_from_is_err_and c.from_residual.result c.from_residual.ensures.1 in
    rw (p.1, p.2) (refused-answer _ c.in_err-trace.ensures.opens)

pub returns : goal.returns
returns c =
    let same = c.in_ok-trace.ensures.opens in
    rw (c.counts.ensures, same) (read-answer _ (rw same at c.in_ok-trace.trace.holds.trace))
