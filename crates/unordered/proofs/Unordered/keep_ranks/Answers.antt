-- `keep_ranks` meets its contract. Assumes nothing.
use Rattle.unordered.proofs.Entries.{placed}
use Rattle.unordered.proofs.Ranks.{ranks-kept}
use Rattle.unordered.proofs.Unordered.keep_ranks.Goals as goal

pub returns : goal.returns
returns c =
    let filled = c.args.filled.now in
    let place = placed filled.holds filled.trace.holds c.requires.0 in
    ranks-kept place c.requires.1 c.keep.ensures c.requires.2 c.requires.3 c.high_end-high.ensures c.low_end-low.ensures
    c.rank-due.ensures c.rank-gone.ensures
