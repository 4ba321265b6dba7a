-- `note_block` meets its contract. Assumes nothing.
use mathlib.Core.Path.{◌≡◌, sym, ◌∙◌}
use native.Mathlib.Omega.{arith}
use lib.ListN.{length}
use borrow.Author.Rules.{rules}
use Rattle.meetings.proofs.Noting.{noted-already, placed, block_noted}
use Rattle.meetings.proofs.Meetings.note_block.Goals as goal

pub returns-then-holds : goal.returns-then-holds
returns-then-holds c =
    noted-already c.requires.0 (sym c.holds.ensures ∙ c.if-holds.true)

pub returns : goal.returns
returns c =
    let long : length c.args.self.now.met ≡ 1024 = search rules in
    let four : length c.meet_block-met.result ≡ 4 = search rules in
    block_noted c.requires.0 c.requires.1 c.requires.2 (search rules) c.meet_block-met.ensures
    (rw c.copy_from_slice.ensures.after
    (placed _ _ _ _ (omega (arith, long, c.requires.1, c.requires.2)) four (omega arith))) c.with.ensures
