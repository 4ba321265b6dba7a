-- `list_if_room` meets its contract. Assumes nothing.
use mathlib.Core.Path.{sym, ◌∙◌}
use Rattle.table_entries.proofs.TableEntries.{table-short}
use Rattle.races.proofs.PairWriting.{hints-none}
use Rattle.races.proofs.Answers.{shorter-min, lists-short, lists-all}
use Rattle.races.proofs.list_if_room.Goals as goal

pub too_many-refused-requires : goal.too_many-refused-requires
too_many-refused-requires c = hints-none _ (table-short c.args.filled.now.holds)

pub returns-in-Some : goal.returns-in-Some
returns-in-Some c =
    let filled = c.args.filled.now in
    lists-short filled.holds filled.trace.holds _ _ (c.min-room.ensures ∙ shorter-min _ _)
    (sym c.too_many-refused.ensures.0 ∙ c.in-Some.is)

pub returns : goal.returns
returns c =
    let filled = c.args.filled.now in
    lists-all filled.holds filled.trace.holds _ _ (c.min-room.ensures ∙ shorter-min _ _)
    (sym c.too_many-refused.ensures.0 ∙ c.in_default.is) c.write_rows-races.ensures
