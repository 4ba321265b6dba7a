-- `first_ends` meets its contract. The invariant: the ends of the pairs below i are known. Assumes nothing.
use borrow.Author.Rules.{rules}
use Rattle.unordered.proofs.Beginning.{set-start, set_more, set-end}
use Rattle.unordered.proofs.first_ends.Goals as goal

pub loop-i-init : goal.loop-i-init
loop-i-init c = set-start _ (search rules)

pub loop-i-preserved : goal.loop-i-preserved
loop-i-preserved c = set_more _ c.loop-i.invariant c.loop-i-test.true c.first_end.ensures

pub returns : goal.returns
returns c = set-end _ c.loop-i.invariant c.loop-i-test.false
