-- `is_marked` meets its contract. Assumes nothing.
use native.Mathlib.Nat.{add-zero}
use lib.Seq.{get_or-drop}
use borrow.Author.Tests.{eq-eqb, ne_eqb}
use Rattle.trace.specs.Questions.{marked}
use Rattle.reader.proofs.is_marked.Goals as goal

pub returns-then-file-at : goal.returns-then-file-at
unfolding marked
returns-then-file-at c = simp (get_or-drop, add-zero, eq-eqb _ _ c.if-file-at.true)

pub returns-else-file-at : goal.returns-else-file-at
unfolding marked
returns-else-file-at c = simp (get_or-drop, add-zero, ne_eqb _ _ c.if-file-at.false)
