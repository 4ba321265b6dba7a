-- `list_byte` meets its contract. The invariant: the first j numbers stand in the row. Assumes nothing.
use mathlib.Core.Path.{◌∙◌}
use Rattle.word_lists.proofs.Lists.{byte-end}
use Rattle.word_lists.proofs.list_byte.Goals as goal

pub returns : goal.returns
returns c = byte-end c.loop-j.invariant c.loop-j-test.false (c.from-2.ensures ∙ c.size.ensures)
