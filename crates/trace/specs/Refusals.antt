-- Which refusal a file gets, said without following the reader: by the first "no"; and which numbers there are.
-- Follows: document 01, "The questions": "asked in this order; the first 'no' gives its number", "then record by record
-- in file order"; "a refusal is the number and a place: the operation number for 5 to 9", otherwise 0.
-- Differs: the form is a parameter. proofs/FirstNo shows that reading refuses exactly so, proofs/Refusals that a file
-- of document 01's form gets no other number, and proofs/Outcomes both of a further question (`then_ask`).
use Rattle.std.specs.Prelude.{List, [], ◌∷◌, ◌++◌, ◌≡◌, ℕ, zero, suc, ◌<◌, drop}
use Rattle.trace.specs.declared.Operation.{Operation}
use Rattle.trace.specs.Form.{Form, base, record_size, start}
use Rattle.trace.specs.Questions.{operation_in, header_question, record_question}
use Rattle.trace.specs.Trace.{Trace}

-- the operations written in the n records that the bytes start with
unfoldable pub operations_in : Form → ℕ → List ℕ → List Operation
operations_in f zero bytes = []
operations_in f (suc n) bytes = operation_in bytes ∷ operations_in f n (drop (record_size f) bytes)

-- the number of the question that refuses the record of operation k; 0 where none does
abbrev pub record_question_at : Form → List ℕ → ℕ → ℕ
record_question_at f bytes k =
    record_question f (operation_in bytes).worker (operations_in f k (drop (record_size f) bytes)) (drop (start f k) bytes)

-- question q refuses the header, and the place is 0; or the header passes, so do the records before k, and question q
-- refuses the record of operation k
pub data RefusedFirst (f : Form) (bytes : List ℕ) (q k : ℕ) : Type 0 where
  by_header : header_question f bytes ≡ q → (q ≡ 0 → ⊥) → k ≡ 0 → RefusedFirst f bytes q k
  by_record : header_question f bytes ≡ 0 → k < (operation_in bytes).number
      → ((i : ℕ) → i < k → record_question_at f bytes i ≡ 0) → record_question_at f bytes k ≡ q → (q ≡ 0 → ⊥)
      → RefusedFirst f bytes q k

-- the same of a file; document 01 has one form
unfoldable pub FileRefusedFirst : List ℕ → ℕ → ℕ → Type 0
FileRefusedFirst bytes q k = RefusedFirst base bytes q k

-- the place of a refusal is "otherwise 0"
abbrev pub no_place : Trace → ℕ
no_place t = 0

-- what a call gets that asks a further question of the trace: the refusal by the first "no" of the questions before; or
-- they let a trace pass, this one's answer is "no", and its number and place are given
pub data RefusedNext (Before : ℕ → ℕ → Type 0) (Passed : Trace → Type 0) (number : ℕ) (No : Trace → Type 0)
    (place : Trace → ℕ) (q k : ℕ) : Type 0 where
  by_earlier : Before q k → RefusedNext Before Passed number No place q k
  by_this : (t : Trace) → Passed t → No t → q ≡ number → k ≡ place t → RefusedNext Before Passed number No place q k

-- ---- the numbers of refusals

-- of the header's questions, and of a record's, in the order asked, as far as a file of document 01's form can get
-- them: 23, which asks for the rank, refuses no such file
abbrev pub header_numbers : List ℕ
header_numbers = 1 ∷ 2 ∷ 3 ∷ 4 ∷ []

abbrev pub record_numbers : List ℕ
record_numbers = 5 ∷ 6 ∷ 7 ∷ 8 ∷ 9 ∷ []

abbrev pub reading_numbers : List ℕ
reading_numbers = header_numbers ++ record_numbers

-- of the file's questions: "Every call that takes a file asks 1 to 10 of it itself." A call's own numbers stand behind
-- them, beside its refusals.
abbrev pub file_numbers : List ℕ
file_numbers = reading_numbers ++ 10 ∷ []
