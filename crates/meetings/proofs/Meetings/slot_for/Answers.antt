-- `slot_for` meets its contract. Assumes nothing.
use mathlib.Core.Path.{sym, ◌∙◌}
use borrow.Author.Rules.{rules}
use Rattle.meetings.proofs.Noting.{taken-notes, taken-for, slot_same}
use Rattle.meetings.proofs.Meetings.slot_for.Goals as goal

pub returns-then-is_for : goal.returns-then-is_for
returns-then-is_for c = (
  c.requires.0,
  slot_same c.slot_of-slot.ensures (sym c.is_for.ensures ∙ c.if-is_for.true) c.first_of-first.ensures
      c.last_of-last.ensures,
)

pub returns : goal.returns
returns c =
    let s = c.slot_of-slot.ensures in (
      taken-notes c.requires.0 s _ _ (search rules) (search rules) (search rules),
      taken-for c.requires.0 s _ _ (search rules) (search rules) (search rules) c.first_of-first.ensures
          c.last_of-last.ensures,
    )
