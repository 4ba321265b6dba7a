-- `fill_and_count` meets its contract: what filling the table answers, and question 16 where it refuses nothing.
-- Assumes nothing.
use mathlib.Core.Path.{sym, ◌∙◌}
use Rattle.std.proofs.lemmas.Result.{err_from_is_err_and}
use Rattle.races.proofs.Answers.{table-after-holds, counts-filled, counts-refused}
use Rattle.races.proofs.fill_and_count.Goals as goal

pub returns-in_err-order_table : goal.returns-in_err-order_table
returns-in_err-order_table c =
    let call = c.order_table.ensures in
    let p = err_from_is_err_and c.from_residual.result c.from_residual.ensures.1 in
    rw (p.1, p.2) (counts-refused _ _ _ call.leaves (sym call.answers ∙ c.in_err-order_table.was))

pub of-trace-requires : goal.of-trace-requires
of-trace-requires c =
    let call = c.order_table.ensures in
    (table-after-holds _ _ call.leaves (sym call.answers ∙ c.in_ok-order_table.was)).1.trace

pub invariant_of-count_if_room : goal.invariant_of-count_if_room
invariant_of-count_if_room c =
    let call = c.order_table.ensures in
    let filled = table-after-holds _ _ call.leaves (sym call.answers ∙ c.in_ok-order_table.was) in
    rw c.of-trace.ensures (record { holds = filled.0 })

pub returns : goal.returns
returns c =
    counts-filled _ _ _ c.order_table.ensures.leaves (rw c.of-trace.ensures at c.count_if_room.ensures)
