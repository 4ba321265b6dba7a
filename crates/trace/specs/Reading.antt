-- What reading a file gives: a refusal, or a trace; and how a call asks a further question of the trace (`then_ask`).
-- Follows: document 01, "The questions": the header's first, "then record by record in file order, 5 to 9 for each"; "a
-- refusal is the number and a place: the operation number for 5 to 9", otherwise 0.
-- Differs: question 10 is not asked here, so a file that reads as a trace need not be one that document 01 calls
-- accepted.
use Rattle.std.specs.Prelude.{Bool, cond, List, [], ◌∷◌, ◌++◌, ℕ, zero, suc, eqb, length, drop}
use Rattle.trace.specs.declared.Operation.{Operation}
use Rattle.trace.specs.Form.{Form, base, record_size}
use Rattle.trace.specs.Questions.{operation_in, header_question, record_question}
use Rattle.trace.specs.Trace.{Trace}

-- a refusal with its number and place, or a trace
pub data Reading : Type 0 where
  refused : ℕ → ℕ → Reading
  reads : Trace → Reading

-- a further question, of the trace: where it does not hold, it refuses with its number and a place
abbrev pub then_ask : ℕ → (Trace → Bool) → (Trace → ℕ) → Reading → Reading
then_ask number holds place (refused q k) = refused q k
then_ask number holds place (reads t) = cond (holds t) (reads t) (refused number (place t))

-- the records behind those of the operations `before`, `left` of them, which `bytes` start with
unfoldable pub reading_from : Form → ℕ → List Operation → ℕ → List ℕ → Reading
reading_from f p before zero bytes = reads (record { workers = p; operations = before })
reading_from f p before (suc left) bytes =
    let q = record_question f p before bytes in
    cond (eqb q 0)
    (reading_from f p (before ++ operation_in bytes ∷ []) left (drop (record_size f) bytes))
    (refused q (length before))

-- the whole file, in a form
unfoldable pub reading : Form → List ℕ → Reading
reading f bytes =
    let header = operation_in bytes in
    let q = header_question f bytes in
    cond (eqb q 0)
    (reading_from f header.worker [] header.number (drop (record_size f) bytes))
    (refused q 0)

-- what reading a file gives; document 01 has one form
unfoldable pub file_reading : List ℕ → Reading
file_reading bytes = reading base bytes

-- the trace; one without workers and operations where the file is refused
abbrev pub trace_in : Reading → Trace
trace_in (refused q k) = record { workers = 0; operations = [] }
trace_in (reads t) = t

-- the trace that a file reads as
unfoldable pub trace_of : List ℕ → Trace
trace_of bytes = trace_in (file_reading bytes)
