-- `list` meets its contract. The invariant: the numbers of the first k bytes are listed. Assumes nothing.
use mathlib.Core.Path.{ap, ◌∙◌}
use lib.ListN.{get_or}
use Rattle.word_lists.proofs.Lists.{list-none, list-start, list_room, list-more, word-byte}
use Rattle.word_lists.proofs.list.Goals as goal

pub returns-then-x-lt1 : goal.returns-then-x-lt1
returns-then-x-lt1 c = list-none c.requires c.if-x-lt1.true

pub loop-k-init : goal.loop-k-init
loop-k-init c = list-start c.args.x c.requires

pub list_byte-end-requires : goal.list_byte-end-requires
list_byte-end-requires c = list_room c.loop-k.invariant c.loop-k-test.true

pub loop-k-preserved : goal.loop-k-preserved
loop-k-preserved c =
    let k = c.loop-k.k in
    list-more c.loop-k.invariant
    (ap (λ l. get_or l k 0) c.to_le_bytes-bytes.ensures ∙ word-byte c.args.x k c.loop-k-test.true) c.list_byte-end.ensures
