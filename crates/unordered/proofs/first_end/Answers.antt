-- `first_end` meets its contract. Assumes nothing.
use mathlib.Core.Path.{sym}
use Rattle.unordered.proofs.Beginning.{end-own, end-other}
use Rattle.unordered.proofs.first_end.Goals as goal

pub returns-then-i : goal.returns-then-i
returns-then-i c = sym (end-own _ _ c.if-i.true)

pub returns : goal.returns
returns c = sym (end-other _ _ c.if-i.false)
