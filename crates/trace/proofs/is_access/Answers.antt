-- `is_access` meets its contract. Assumes nothing.
use borrow.Author.Tests.{eq-eqb, ne_eqb}
use Rattle.trace.specs.Trace.{is_access}
use Rattle.trace.proofs.is_access.Goals as goal

pub returns-then-kind-eq3 : goal.returns-then-kind-eq3
unfolding is_access
returns-then-kind-eq3 c = simp (eq-eqb _ _ c.if-kind-eq3.true)

pub returns-else-kind-eq3 : goal.returns-else-kind-eq3
unfolding is_access
returns-else-kind-eq3 c = simp (ne_eqb _ _ c.if-kind-eq3.false)
