-- `is_empty` meets its contract. Assumes nothing.
use borrow.Author.Tests.{eqb-true}
use Rattle.race_words.proofs.RowNotes.{block-empty}
use Rattle.race_words.proofs.is_empty.Goals as goal

pub returns : goal.returns
returns c e =
    block-empty c.args.kept.now c.args.w c.args.block c.joined-low.ensures c.joined-high.ensures
    c.joined.ensures (eqb-true _ _ e)
