-- The order table: the rows of a trace's operations, one behind the other.
-- Follows: document 01, "Order table and order".
-- Differs: nowhere. `row t k` is in the crate `model`, computed; the crate `order_table` shows what the entries count,
-- in maximal valid executions.
use Rattle.std.specs.Prelude.{List, [], ◌++◌, ℕ, zero, suc}
use Rattle.trace.specs.Trace.{Trace, size}
use Rattle.model.specs.Computed.{row}

-- the rows of the operations below k, one behind the other
unfoldable pub rows : Trace → ℕ → List ℕ
rows t zero = []
rows t (suc k) = rows t k ++ row t k

-- document 01: "The table has n rows."
abbrev pub order_table : Trace → List ℕ
order_table t = rows t (size t)
