-- `size` meets its contract: the digit that stands in the table. Assumes nothing.
use native.Mathlib.Omega.{arith}
use Rattle.word_lists.proofs.Digits.{size-at}
use Rattle.word_lists.proofs.size.Goals as goal

pub overflow_sub-result : goal.overflow_sub-result
overflow_sub-result c = omega (arith, size-at c.from.result (omega arith))

pub returns : goal.returns
returns c = rw (← c.from.ensures) (omega (arith, size-at c.from.result (omega arith)))
