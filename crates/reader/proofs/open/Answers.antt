-- `open` meets its contract. Assumes nothing.
use mathlib.Core.Path.{refl, sym}
use native.Mathlib.Omega.{arith}
use Rattle.std.proofs.lemmas.Result.{err_from_is_err_and}
use Rattle.trace.specs.Form.{base}
use Rattle.trace.specs.Reading.{file_reading}
use Rattle.trace.proofs.Answered.{header-answered}
use Rattle.reader.proofs.Answers.{refused-answer, read-answer}
use Rattle.reader.proofs.ReaderSteps.{header-refuses, header-holds, refuses-some, refuses-none}
use Rattle.reader.proofs.open.Goals as goal

pub returns-in-Some-clause-opens : goal.returns-in-Some-clause-opens
unfolding file_reading
returns-in-Some-clause-opens c =
    let (asked, some) = refuses-some c.in-Some.ensures in
    header-refuses base _ _ asked some

pub returns-in-Some-clause-answers : goal.returns-in-Some-clause-answers
returns-in-Some-clause-answers c = refused-answer _ (returns-in-Some-clause-opens c)

pub operation_in-header-requires : goal.operation_in-header-requires
operation_in-header-requires c =
    let h = header-answered base _ (refuses-none c.in_default.ensures) in
    omega (arith, h.whole)

pub returns-in_err-ask_records-clause-answers : goal.returns-in_err-ask_records-clause-answers
returns-in_err-ask_records-clause-answers c =
    let p = err_from_is_err_and c.from_residual.result c.from_residual.ensures.1 in
    rw (p.1, p.2) (refused-answer _ c.in_err-ask_records.ensures)

pub returns-clause-answers : goal.returns-clause-answers
returns-clause-answers c =
    let h = rw c.of.ensures at c.of.result.holds in
    rw (h.workers, h.count) at (read-answer _ h.trace)
