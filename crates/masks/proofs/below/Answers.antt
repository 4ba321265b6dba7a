-- `below` meets its contract. Assumes nothing.
use native.Mathlib.Omega.{arith}
use Rattle.masks.proofs.Sets.{shifted, below-ones}
use Rattle.masks.proofs.below.Goals as goal

pub overflow_sub-result : goal.overflow_sub-result
overflow_sub-result c = omega (arith, (shifted c.args.q c.requires).0)

pub overflow_cast-result : goal.overflow_cast-result
overflow_cast-result c = record { fits = omega (arith, (shifted c.args.q c.requires).1, (shifted c.args.q c.requires).0) }

pub returns : goal.returns
returns c = below-ones c.args.q c.requires
