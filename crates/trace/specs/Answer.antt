-- What a call answers: a value, or a refusal's number and place.
-- Follows: document 01, "The questions": "a refusal is the number and a place". The structs are those of src/lib.rt.
-- Differs: nowhere.
use Rattle.std.specs.Prelude.{ℕ, Result, Ok, Err}
use Rattle.trace.specs.declared.Counts.{Counts}
use Rattle.trace.specs.declared.Refusal.{Refusal}
use Rattle.trace.specs.Reading.{Reading, refused, reads}
use Rattle.trace.specs.Trace.{Trace, size}

-- the refusal by question `number`, with its place, whatever is answered otherwise
abbrev pub Refused : {A : Type 0} → ℕ → ℕ → Result A Refusal
Refused number place = Err (record { number = number; place = place })

-- a worker count p and an operation count n
abbrev pub counts : ℕ → ℕ → Counts
counts p n = record { workers = p; operations = n }

-- those of a trace
abbrev pub counts_of : Trace → Counts
counts_of t = counts t.workers (size t)

-- the answer, by how the questions come out: the refusal, or what is said of the trace
abbrev pub answer_by : {A : Type 0} → (Trace → A) → Reading → Result A Refusal
answer_by said (refused number place) = Refused number place
answer_by said (reads t) = Ok (said t)
