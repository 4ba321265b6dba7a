-- `add_met` meets its contract. Assumes nothing.
use native.Mathlib.Omega.{arith}
use Rattle.conflicts.specs.Cells.{met_at}
use Rattle.conflicts.proofs.MetWords.{bit-few}
use Rattle.conflicts.proofs.Cells.add_met.Goals as goal

pub overflow_add-result : goal.overflow_add-result
overflow_add-result c =
    let a = c.args in
    omega (arith, c.requires.1, c.meets.ensures, bit-few (met_at a.self.now a.first a.last a.at))

pub returns : goal.returns
returns c = rw c.meets.ensures
