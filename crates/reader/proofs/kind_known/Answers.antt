-- `kind_known` meets its contract. Assumes nothing.
use borrow.Author.Tests.{le-leb, lt-leb}
use Rattle.trace.specs.Questions.{kind_known}
use Rattle.reader.proofs.kind_known.Goals as goal

pub returns-then-o-ge1 : goal.returns-then-o-ge1
unfolding kind_known
returns-then-o-ge1 c = simp (le-leb _ _ c.if-o-ge1.true)

pub returns-else-o-ge1 : goal.returns-else-o-ge1
unfolding kind_known
returns-else-o-ge1 c = simp (lt-leb _ _ c.if-o-ge1.false)
