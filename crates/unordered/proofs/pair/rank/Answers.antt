-- `rank` meets its contract. Assumes nothing.
use mathlib.Core.Path.{sym, ◌∙◌}
use Rattle.unordered.proofs.Entries.{rank-inside, rank-past}
use Rattle.unordered.proofs.pair.rank.Goals as goal

pub returns-then-k-end : goal.returns-then-k-end
returns-then-k-end c = c.entry.ensures.0 ∙ sym (rank-inside _ _ _ _ _ c.if-k-end.true)

pub returns : goal.returns
returns c = sym (rank-past _ _ _ _ _ c.if-k-end.false)
