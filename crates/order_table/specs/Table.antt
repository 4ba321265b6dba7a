-- The order table: question 11, what the call answers, and what it leaves in the lent table.
-- Follows: document 01, "The questions" and "Order table and order".
-- Differs: nowhere. The rows are in the crate `table_rows`; proofs/Entries shows what the entries count, in maximal
-- valid executions.
use Rattle.std.specs.Prelude.{Bool, List, ◌≡◌, ℕ, ◌*◌, leb, length, Result, Ok}
use Rattle.trace.specs.declared.Counts.{Counts}
use Rattle.trace.specs.declared.Refusal.{Refusal}
use Rattle.trace.specs.Answer.{counts, counts_of, answer_by}
use Rattle.trace.specs.Reading.{Reading, then_ask}
use Rattle.trace.specs.Refusals.{no_place}
use Rattle.trace.specs.Trace.{Trace, size}
use Rattle.accept.specs.Acceptance.{acceptance}
use Rattle.lent.specs.Left.{left_by}
use Rattle.table_rows.specs.Rows.{order_table}

-- 11. "Does the lent table hold at least n × p numbers?" It holds `room` numbers.
abbrev pub has_room : ℕ → Trace → Bool
has_room room t = leb (size t * t.workers) room

-- the file's questions and 11: the refusal by the first "no", or the trace
unfoldable pub table_reading : List ℕ → ℕ → Reading
table_reading bytes room = then_ask 11 (has_room room) no_place (acceptance bytes)

-- the worker count p and the operation count n of the filled table
abbrev pub Filled : ℕ → ℕ → Result Counts Refusal
Filled p n = Ok (counts p n)

-- those counts, or the refusal's number and place
abbrev pub answer_of : Reading → Result Counts Refusal
answer_of = answer_by counts_of

-- what the call answers
unfoldable pub table_answer : List ℕ → List ℕ → Result Counts Refusal
table_answer bytes lent = answer_of (table_reading bytes (length lent))

-- what the call leaves in the lent table: "Refused calls write nothing"; "everything past the last element written is
-- as before"
unfoldable pub table_after : List ℕ → List ℕ → List ℕ
table_after bytes lent = left_by order_table (table_reading bytes (length lent)) lent

-- the call's promise, for any bytes and any lent table: its answer, and what is in the table afterwards
pub record TableCall (bytes lent : List ℕ) (answer : Result Counts Refusal) (now : List ℕ) : Type 0 where
  pub answers : answer ≡ table_answer bytes lent
  pub leaves : now ≡ table_after bytes lent
