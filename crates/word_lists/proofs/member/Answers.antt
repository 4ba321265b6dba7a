-- `member` meets its contract: the digit that stands in the table. Assumes nothing.
use native.Mathlib.Omega.{arith}
use Rattle.word_lists.proofs.Digits.{member-at}
use Rattle.word_lists.proofs.member.Goals as goal

pub overflow_sub-result : goal.overflow_sub-result
overflow_sub-result c = omega (arith, member-at c.from.result c.args.j (omega arith) c.requires)

pub returns : goal.returns
returns c = rw (← c.from.ensures) (omega (arith, member-at c.from.result c.args.j (omega arith) c.requires))
