-- `place_of` meets its contract. Assumes nothing.
use mathlib.Core.Path.{refl}
use borrow.Author.Rules.{rules}
use Rattle.conflicts.specs.Cells.{place}
use Rattle.conflicts.proofs.CellTests.{place-below}
use Rattle.conflicts.proofs.place_of.Goals as goal

pub returns : goal.returns
unfolding place
returns c = (refl, place-below _ (search rules))
