-- `number16` meets its contract. Assumes nothing.
use borrow.Author.Rules.{rules}
use Rattle.trace.proofs.LittleEndian.{value-two}
use Rattle.trace.proofs.number16.Goals as goal

pub returns : goal.returns
returns c = rw value-two (search rules)
