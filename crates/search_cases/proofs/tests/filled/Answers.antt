-- `filled` meets its contract: where filling the table refuses nothing, it is that of the file. Assumes nothing.
use mathlib.Core.Path.{sym, ◌∙◌}
use Rattle.races.proofs.Answers.{table-after-holds}
use Rattle.search_cases.proofs.tests.filled.Goals as goal

pub of-trace-requires : goal.of-trace-requires
of-trace-requires c =
    let call = c.order_table.ensures in
    (table-after-holds _ _ call.leaves (sym call.answers ∙ c.in_ok-order_table.was)).1.trace

pub invariant_of-result : goal.invariant_of-result
invariant_of-result c =
    let call = c.order_table.ensures in
    let filled = table-after-holds _ _ call.leaves (sym call.answers ∙ c.in_ok-order_table.was) in
    rw c.of-trace.ensures (record { holds = filled.0 })
