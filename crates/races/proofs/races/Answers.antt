-- `races` meets its contract: what filling the table answers, and the listing where it refuses nothing.
-- Assumes nothing.
use mathlib.Core.Path.{sym, ◌∙◌}
use Rattle.std.proofs.lemmas.Result.{err_from_is_err_and}
use Rattle.races.proofs.Answers.{table-after-holds, call-filled, call-refused}
use Rattle.races.proofs.races.Goals as goal

pub returns-in_err-order_table : goal.returns-in_err-order_table
returns-in_err-order_table c =
    let call = c.order_table.ensures in
    let p = err_from_is_err_and c.from_residual.result c.from_residual.ensures.1 in
    rw (p.1, p.2) (call-refused _ _ _ _ call.leaves (sym call.answers ∙ c.in_err-order_table.was))

pub of-trace-requires : goal.of-trace-requires
of-trace-requires c =
    let call = c.order_table.ensures in
    (table-after-holds _ _ call.leaves (sym call.answers ∙ c.in_ok-order_table.was)).1.trace

pub invariant_of-list_if_room : goal.invariant_of-list_if_room
invariant_of-list_if_room c =
    let call = c.order_table.ensures in
    let filled = table-after-holds _ _ call.leaves (sym call.answers ∙ c.in_ok-order_table.was) in
    rw c.of-trace.ensures (record { holds = filled.0 })

pub returns : goal.returns
returns c = call-filled _ _ _ _ c.order_table.ensures.leaves (rw c.of-trace.ensures at c.list_if_room.ensures)
