-- `is_sync` meets its contract. Assumes nothing.
use borrow.Author.Tests.{eq-eqb, ne_eqb}
use Rattle.trace.specs.Trace.{is_sync}
use Rattle.trace.proofs.is_sync.Goals as goal

pub returns-then-kind-eq1 : goal.returns-then-kind-eq1
unfolding is_sync
returns-then-kind-eq1 c = simp (eq-eqb _ _ c.if-kind-eq1.true)

pub returns-else-kind-eq1 : goal.returns-else-kind-eq1
unfolding is_sync
returns-else-kind-eq1 c = simp (ne_eqb _ _ c.if-kind-eq1.false)
