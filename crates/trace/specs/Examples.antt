-- Files and what reading them gives, computed: each question at its limits, in the header and in two records; a form
-- with a rank field; trace A read and written, its ranks and one worker's operations.
-- Follows: document 01, "Examples": A, E and G; the others are the limits of each question.
-- Differs: nowhere.
use Rattle.std.specs.Prelude.{List, [], ◌∷◌, map, ◌≡◌, refl, ℕ}
use Rattle.trace.specs.declared.Operation.{Operation}
use Rattle.trace.specs.Form.{Form, base}
use Rattle.trace.specs.LittleEndian.{value, digits}
use Rattle.trace.specs.Questions.{operation_in, marked, ranked, is_header, workers_fit}
use Rattle.trace.specs.Questions.{header_question, kind_known, event_fits, cells_fit, record_question}
use Rattle.trace.specs.Reading.{Reading, refused, reads, reading_from, reading}
use Rattle.trace.specs.Trace.{Trace, of_worker, rank, is_sync, is_access}
use Rattle.trace.specs.Writing.{record_bytes, records_bytes, bytes_of}

-- the bytes of a record behind its mark, then `rest`
abbrev pub fields : ℕ → ℕ → ℕ → ℕ → ℕ → ℕ → ℕ → ℕ → List ℕ → List ℕ
fields worker kind n0 n1 n2 n3 l0 l1 rest = worker ∷ kind ∷ n0 ∷ n1 ∷ n2 ∷ n3 ∷ l0 ∷ l1 ∷ rest

-- a record with its mark
abbrev pub with_mark : ℕ → ℕ → ℕ → ℕ → ℕ → ℕ → ℕ → ℕ → List ℕ → List ℕ
with_mark worker kind n0 n1 n2 n3 l0 l1 rest = 0x50 ∷ 0x57 ∷ fields worker kind n0 n1 n2 n3 l0 l1 rest

-- the header of a file of p workers and n operations, for n below 256
abbrev pub headed : ℕ → ℕ → List ℕ → List ℕ
headed p n rest = with_mark p 0 n 0 0 0 0 0 rest

-- a file of two workers and one operation
abbrev pub file_of_one : List ℕ → List ℕ
file_of_one rest = headed 2 1 rest

-- a file of two workers, of which the first posts event 1, and one operation more
abbrev pub file_of_two : List ℕ → List ℕ
file_of_two rest = headed 2 2 (with_mark 0 1 1 0 0 0 0 0 rest)

-- what a file of two workers with one operation reads as: worker, kind, number, length
abbrev pub reads_one : ℕ → ℕ → ℕ → ℕ → Reading
reads_one w k n l =
    reads (record { workers = 2; operations = record { worker = w; kind = k; number = n; length = l } ∷ [] })

pub record Case : Type 0 where
  pub file : List ℕ
  pub gives : Reading

abbrev pub gives : List ℕ → Reading → Case
gives file r = record { file = file; gives = r }

abbrev pub headers : List Case
headers =
    -- no bytes; 1 byte; 9 bytes; another mark, by its second and by its first byte; swapped; kind 1; length 1; 256
    gives [] (refused 1 0)
    ∷ gives (0x50 ∷ []) (refused 1 0)
    ∷ gives (0x50 ∷ 0x57 ∷ 1 ∷ 0 ∷ 0 ∷ 0 ∷ 0 ∷ 0 ∷ 0 ∷ []) (refused 1 0)
    ∷ gives (0x50 ∷ 0x58 ∷ fields 1 0 0 0 0 0 0 0 []) (refused 1 0)
    ∷ gives (0x51 ∷ 0x57 ∷ fields 1 0 0 0 0 0 0 0 []) (refused 1 0)
    ∷ gives (0x57 ∷ 0x50 ∷ fields 1 0 0 0 0 0 0 0 []) (refused 1 0)
    ∷ gives (with_mark 1 1 0 0 0 0 0 0 []) (refused 1 0)
    ∷ gives (with_mark 1 0 0 0 0 0 1 0 []) (refused 1 0)
    ∷ gives (with_mark 1 0 0 0 0 0 0 1 []) (refused 1 0)
    -- p 0, 17 and 255; p 17 with n 1,025
    ∷ gives (headed 0 0 []) (refused 2 0)
    ∷ gives (headed 17 0 []) (refused 2 0)
    ∷ gives (headed 255 0 []) (refused 2 0)
    ∷ gives (with_mark 17 0 1 4 0 0 0 0 []) (refused 2 0)
    -- n 1,025, 65,536, 2,147,483,648 and 4,294,967,295, whatever the size; n 1,024 without its records
    ∷ gives (with_mark 1 0 1 4 0 0 0 0 []) (refused 3 0)
    ∷ gives (with_mark 1 0 0 0 1 0 0 0 []) (refused 3 0)
    ∷ gives (with_mark 1 0 0 0 0 128 0 0 []) (refused 3 0)
    ∷ gives (with_mark 1 0 255 255 255 255 0 0 []) (refused 3 0)
    ∷ gives (with_mark 1 0 0 4 0 0 0 0 []) (refused 4 0)
    -- one byte more; one byte less; a record too few; a record too many
    ∷ gives (headed 1 0 (0 ∷ [])) (refused 4 0)
    ∷ gives (file_of_one (0x50 ∷ 0x57 ∷ 0 ∷ 1 ∷ 1 ∷ 0 ∷ 0 ∷ 0 ∷ 0 ∷ [])) (refused 4 0)
    ∷ gives (file_of_one []) (refused 4 0)
    ∷ gives (headed 2 0 (with_mark 0 1 1 0 0 0 0 0 [])) (refused 4 0)
    -- E: one worker, no operations; sixteen workers
    ∷ gives (headed 1 0 []) (reads (record { workers = 1; operations = [] }))
    ∷ gives (headed 16 0 []) (reads (record { workers = 16; operations = [] }))
    ∷ []

abbrev pub records : List Case
records =
    -- another mark: by its first byte, swapped, by its second byte
    gives (file_of_one (0x51 ∷ 0x57 ∷ fields 0 1 1 0 0 0 0 0 [])) (refused 5 0)
    ∷ gives (file_of_one (0x57 ∷ 0x50 ∷ fields 0 1 1 0 0 0 0 0 [])) (refused 5 0)
    ∷ gives (file_of_one (0x50 ∷ 0x58 ∷ fields 0 1 1 0 0 0 0 0 [])) (refused 5 0)
    -- the worker is p, or 255; the kind is 0, 5 or 255
    ∷ gives (file_of_one (with_mark 2 1 1 0 0 0 0 0 [])) (refused 6 0)
    ∷ gives (file_of_one (with_mark 255 1 1 0 0 0 0 0 [])) (refused 6 0)
    ∷ gives (file_of_one (with_mark 0 0 1 0 0 0 0 0 [])) (refused 7 0)
    ∷ gives (file_of_one (with_mark 0 5 1 0 0 0 0 0 [])) (refused 7 0)
    ∷ gives (file_of_one (with_mark 0 255 1 0 0 0 0 0 [])) (refused 7 0)
    -- G: event 255, as a Post and as a Wait; 256; 65,536; 4,294,967,295; length 1; length 256
    ∷ gives (file_of_one (with_mark 1 1 255 0 0 0 0 0 [])) (reads_one 1 1 255 0)
    ∷ gives (file_of_one (with_mark 1 2 255 0 0 0 0 0 [])) (reads_one 1 2 255 0)
    ∷ gives (file_of_one (with_mark 0 1 0 1 0 0 0 0 [])) (refused 8 0)
    ∷ gives (file_of_one (with_mark 0 2 0 1 0 0 0 0 [])) (refused 8 0)
    ∷ gives (file_of_one (with_mark 0 1 0 0 1 0 0 0 [])) (refused 8 0)
    ∷ gives (file_of_one (with_mark 0 1 255 255 255 255 0 0 [])) (refused 8 0)
    ∷ gives (file_of_one (with_mark 0 1 1 0 0 0 1 0 [])) (refused 8 0)
    ∷ gives (file_of_one (with_mark 0 2 1 0 0 0 0 1 [])) (refused 8 0)
    -- G: the last cell, with length 1, 2 and 0; 65,535 cells up to the last, and one past it
    ∷ gives (file_of_one (with_mark 0 3 255 255 255 255 1 0 [])) (reads_one 0 3 4294967295 1)
    ∷ gives (file_of_one (with_mark 0 3 255 255 255 255 2 0 [])) (refused 9 0)
    ∷ gives (file_of_one (with_mark 0 4 255 255 255 255 0 0 [])) (refused 9 0)
    ∷ gives (file_of_one (with_mark 0 4 1 0 255 255 255 255 [])) (reads_one 0 4 4294901761 65535)
    ∷ gives (file_of_one (with_mark 0 4 2 0 255 255 255 255 [])) (refused 9 0)
    -- A, operation 0: 50 57 00 04 07 00 00 00 01 00
    ∷ gives (file_of_one (0x50 ∷ 0x57 ∷ 0x00 ∷ 0x04 ∷ 0x07 ∷ 0x00 ∷ 0x00 ∷ 0x00 ∷ 0x01 ∷ 0x00 ∷ [])) (reads_one 0 4 7 1)
    -- each question at place 1
    ∷ gives (file_of_two (0x50 ∷ 0x56 ∷ fields 0 1 1 0 0 0 0 0 [])) (refused 5 1)
    ∷ gives (file_of_two (with_mark 2 1 1 0 0 0 0 0 [])) (refused 6 1)
    ∷ gives (file_of_two (with_mark 1 5 1 0 0 0 0 0 [])) (refused 7 1)
    ∷ gives (file_of_two (with_mark 1 2 0 1 0 0 0 0 [])) (refused 8 1)
    ∷ gives (file_of_two (with_mark 1 3 0 0 0 0 0 0 [])) (refused 9 1)
    -- the first "no": 5 before 6, 7, 8 and 9; 6 before 7, 8 and 9; record 0's 8 before record 1's 5
    ∷ gives (file_of_one (0 ∷ 0 ∷ fields 2 1 1 0 0 0 0 0 [])) (refused 5 0)
    ∷ gives (file_of_one (0 ∷ 0 ∷ fields 0 5 1 0 0 0 0 0 [])) (refused 5 0)
    ∷ gives (file_of_one (0 ∷ 0 ∷ fields 0 1 0 1 0 0 0 0 [])) (refused 5 0)
    ∷ gives (file_of_one (0 ∷ 0 ∷ fields 0 3 7 0 0 0 0 0 [])) (refused 5 0)
    ∷ gives (file_of_one (with_mark 2 5 1 0 0 0 0 0 [])) (refused 6 0)
    ∷ gives (file_of_one (with_mark 2 1 0 1 0 0 0 0 [])) (refused 6 0)
    ∷ gives (file_of_one (with_mark 2 3 7 0 0 0 0 0 [])) (refused 6 0)
    ∷ gives (headed 2 2 (with_mark 0 1 0 1 0 0 0 0 (0 ∷ 0 ∷ fields 0 1 1 0 0 0 0 0 []))) (refused 8 0)
    ∷ []

-- a form with a rank field of two bytes, and a file of it: one Post, whose rank is 1; the header's is 0
abbrev pub ranking : Form
ranking = record { first = 0x50; second = 0x58; rank_width = 2 }

abbrev pub one_post : ℕ → ℕ → ℕ → List ℕ
one_post header worker rank =
    0x50 ∷ 0x58 ∷ fields 2 0 1 0 0 0 0 0 (header ∷ 0 ∷ 0x50 ∷ 0x58 ∷ fields worker 1 1 0 0 0 0 0 (rank ∷ 0 ∷ []))

-- each file reads as its case says; in the form with a rank, the Post of rank 1 is read, and refused are: rank 2; rank
-- 2 of worker 2, which is p; a header of rank 1; a header of 11 bytes
pub cases_hold : (map (λ c. reading base c.file) headers ≡ map (λ c. c.gives) headers)
    × (map (λ c. reading base c.file) records ≡ map (λ c. c.gives) records)
    × (reading ranking (one_post 0 0 1) ≡ reads_one 0 1 1 0)
    × (reading ranking (one_post 0 0 2) ≡ refused 23 0)
    × (reading ranking (one_post 0 2 2) ≡ refused 6 0)
    × (reading ranking (one_post 1 0 1) ≡ refused 1 0)
    × (reading ranking (0x50 ∷ 0x58 ∷ fields 2 0 0 0 0 0 0 0 (0 ∷ [])) ≡ refused 1 0)
unfolding value digits operation_in marked ranked is_header workers_fit header_question of_worker is_sync is_access kind_known
    event_fits cells_fit record_question reading_from reading
cases_hold = (refl, refl, refl, refl, refl, refl, refl)

-- A: 0:Write 7 len 1; 0:Post 1; 1:Wait 1; 1:Read 7 len 1; 2:Wait 1; 2:Write 7 len 1; 2:Post 1
abbrev pub file_a : List ℕ
file_a =
    headed 3 7
    (with_mark 0 4 7 0 0 0 1 0
    (with_mark 0 1 1 0 0 0 0 0
    (with_mark 1 2 1 0 0 0 0 0
    (with_mark 1 3 7 0 0 0 1 0
    (with_mark 2 2 1 0 0 0 0 0 (with_mark 2 4 7 0 0 0 1 0 (with_mark 2 1 1 0 0 0 0 0 [])))))))

abbrev pub operations_a : List Operation
operations_a =
    record { worker = 0; kind = 4; number = 7; length = 1 }
    ∷ record { worker = 0; kind = 1; number = 1; length = 0 }
    ∷ record { worker = 1; kind = 2; number = 1; length = 0 }
    ∷ record { worker = 1; kind = 3; number = 7; length = 1 }
    ∷ record { worker = 2; kind = 2; number = 1; length = 0 }
    ∷ record { worker = 2; kind = 4; number = 7; length = 1 }
    ∷ record { worker = 2; kind = 1; number = 1; length = 0 }
    ∷ []

abbrev pub trace_a : Trace
trace_a = record { workers = 3; operations = operations_a }

-- the file reads as the trace, and is its bytes; ranks 1 2 1 2 1 2 3; worker 1 waits for event 1 and reads cell 7
pub trace_a_tests : (reading base file_a ≡ reads trace_a)
    × (bytes_of base trace_a ≡ file_a)
    × (map (rank trace_a) (0 ∷ 1 ∷ 2 ∷ 3 ∷ 4 ∷ 5 ∷ 6 ∷ []) ≡ 1 ∷ 2 ∷ 1 ∷ 2 ∷ 1 ∷ 2 ∷ 3 ∷ [])
    × (of_worker 1 operations_a
    ≡ record { worker = 1; kind = 2; number = 1; length = 0 }
    ∷ record { worker = 1; kind = 3; number = 7; length = 1 }
    ∷ [])
unfolding value digits operation_in marked ranked is_header workers_fit header_question of_worker is_sync is_access kind_known
    event_fits cells_fit record_question reading_from reading record_bytes records_bytes bytes_of
trace_a_tests = (refl, refl, refl, refl)
