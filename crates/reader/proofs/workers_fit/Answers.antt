-- `workers_fit` meets its contract. Assumes nothing.
use borrow.Author.Tests.{le-leb, lt-leb}
use Rattle.trace.specs.Questions.{workers_fit}
use Rattle.reader.proofs.workers_fit.Goals as goal

pub returns-then-p-ge1 : goal.returns-then-p-ge1
unfolding workers_fit
returns-then-p-ge1 c = simp (le-leb _ _ c.if-p-ge1.true)

pub returns-else-p-ge1 : goal.returns-else-p-ge1
unfolding workers_fit
returns-else-p-ge1 c = simp (lt-leb _ _ c.if-p-ge1.false)
