-- `holds` meets its contract. Assumes nothing.
use borrow.Author.Rules.{rules}
use Rattle.words.specs.Words.{is_in}
use Rattle.words.proofs.holds.Goals as goal

pub returns : goal.returns
unfolding is_in
returns c = search rules
