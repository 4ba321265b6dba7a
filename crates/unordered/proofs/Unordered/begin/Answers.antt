-- `begin` meets its contract. Assumes nothing.
use Rattle.unordered.proofs.Beginning.{begun}
use Rattle.unordered.proofs.Unordered.begin.Goals as goal

pub returns : goal.returns
returns c =
    begun c.args.trace.now.holds c.read_next-firsts.ensures.0 c.read_next-firsts.ensures.1 c.first_ends-ends.ensures
