-- The questions of a header and of a record, each a test; and the number that the first "no" gives.
-- Follows: document 01, "Trace file" and "The questions"; each question has its wording as a comment.
-- Differs: the form is a parameter, and the 10 of questions 1 and 4 is its record size. Question 23 (document 02,
-- request 8) is asked of the bytes of the form's rank field: of `base`, which has none, it is always answered yes.
use Rattle.std.specs.Prelude.{Bool, true, ◌&&◌, cond, List, [], ◌∷◌, ◌++◌, ℕ, ◌+◌, ◌*◌, eqb, ltb, leb, get_or, length, drop}
use Rattle.trace.specs.declared.Operation.{Operation}
use Rattle.trace.specs.Form.{Form, record_size}
use Rattle.trace.specs.LittleEndian.{value, digits}
use Rattle.trace.specs.Trace.{is_sync, is_access, rank_after}

-- ---- the bytes of a record, which stand at the front of the list

-- "one byte worker, one byte kind, a 4-byte number, a 2-byte length", behind the mark
unfoldable pub operation_in : List ℕ → Operation
operation_in bytes =
    record {
      worker = get_or bytes 2 0;
      kind = get_or bytes 3 0;
      number = value 4 (drop 4 bytes);
      length = value 2 (drop 8 bytes);
    }

-- does the record start with the mark?
unfoldable pub marked : Form → List ℕ → Bool
marked f bytes = eqb (get_or bytes 0 0) f.first && eqb (get_or bytes 1 0) f.second

-- does its rank field hold the bytes of r? (it holds r itself, where r fits the field: proofs/Answered)
unfoldable pub ranked : Form → ℕ → List ℕ → Bool
ranked f r bytes = eqb (value f.rank_width (drop 10 bytes)) (value f.rank_width (digits f.rank_width r))

-- ---- a question, and the first "no"

-- its number, and whether the answer is yes
pub record Question : Type 0 where
  pub number : ℕ
  pub yes : Bool

abbrev pub ask : ℕ → Bool → Question
ask q b = record { number = q; yes = b }

-- "Asked in this order; the first 'no' gives its number." 0 where every answer is yes
abbrev pub first_no : List Question → ℕ
first_no [] = 0
first_no (q ∷ rest) = cond q.yes (first_no rest) q.number

-- ---- the header: "its worker byte holds the worker count p", "its number is the operation count n"

-- 1. Are there at least 10 bytes, starting with the mark, with kind 0 and length 0? (and rank 0)
unfoldable pub is_header : Form → List ℕ → Bool
is_header f bytes =
    leb (record_size f) (length bytes)
    && (marked f bytes
    && (eqb (operation_in bytes).kind 0 && (eqb (operation_in bytes).length 0 && ranked f 0 bytes)))

-- 2. Is p from 1 to 16?
unfoldable pub workers_fit : ℕ → Bool
workers_fit p = leb 1 p && leb p 16

-- 3. Is n at most 1,024?
abbrev pub count_fits : ℕ → Bool
count_fits n = leb n 1024

-- 4. Is the file exactly 10 + 10 × n bytes?
abbrev pub is_whole : Form → ℕ → List ℕ → Bool
is_whole f n bytes = eqb (length bytes) (record_size f + record_size f * n)

abbrev pub header_questions : Form → List ℕ → List Question
header_questions f bytes =
    let header = operation_in bytes in
    ask 1 (is_header f bytes)
    ∷ ask 2 (workers_fit header.worker)
    ∷ ask 3 (count_fits header.number)
    ∷ ask 4 (is_whole f header.number bytes)
    ∷ []

-- the number of the question that refuses the header; 0 where none does
unfoldable pub header_question : Form → List ℕ → ℕ
header_question f bytes = first_no (header_questions f bytes)

-- ---- a record

-- 5. Does it start with the mark? This is `marked`.

-- 6. Is the worker below p?
abbrev pub worker_known : ℕ → Operation → Bool
worker_known p o = ltb o.worker p

-- 7. Is the kind 1 to 4?
unfoldable pub kind_known : Operation → Bool
kind_known o = leb 1 o.kind && leb o.kind 4

-- 8. If Post or Wait: is the event at most 255 and the length 0?
unfoldable pub event_fits : Operation → Bool
event_fits o = cond (is_sync o.kind) (leb o.number 255 && eqb o.length 0) true

-- 9. If Read or Write: is the length at least 1, and first cell + length at most 4,294,967,296?
unfoldable pub cells_fit : Operation → Bool
cells_fit o = cond (is_access o.kind) (leb 1 o.length && leb (o.number + o.length) 4294967296) true

-- asked of the operation of a record, in a file of p workers
abbrev pub operation_questions : ℕ → Operation → List Question
operation_questions p o =
    ask 6 (worker_known p o) ∷ ask 7 (kind_known o) ∷ ask 8 (event_fits o) ∷ ask 9 (cells_fit o) ∷ []

-- 23. Is the rank "the count of its worker's records so far, itself included"? This is `ranked` at that count.

-- asked of a record that stands behind those of the operations `before`
abbrev pub record_questions : Form → ℕ → List Operation → List ℕ → List Question
record_questions f p before bytes =
    let o = operation_in bytes in
    ask 5 (marked f bytes) ∷ (operation_questions p o ++ ask 23 (ranked f (rank_after before o) bytes) ∷ [])

-- the number of the question that refuses the record; 0 where none does
unfoldable pub record_question : Form → ℕ → List Operation → List ℕ → ℕ
record_question f p before bytes = first_no (record_questions f p before bytes)
