-- The bytes of a trace, and which traces have a file.
-- Follows: document 01, "Trace file": the header's record, then each operation's.
-- Differs: the form is a parameter; a rank field is written where the form has one.
use Rattle.std.specs.Prelude.{List, [], ◌∷◌, ◌++◌, ◌≡◌, ℕ, ◌+◌, ◌<◌, ◌≤◌, T, get_or}
use Rattle.trace.specs.declared.Operation.{Operation}
use Rattle.trace.specs.Form.{Form}
use Rattle.trace.specs.LittleEndian.{digits}
use Rattle.trace.specs.Trace.{Trace, size, operation, rank_after, is_sync, is_access}

-- "the mark, one byte worker, one byte kind, a 4-byte number, a 2-byte length, both little-endian"; then the rank
unfoldable pub record_bytes : Form → ℕ → Operation → List ℕ
record_bytes f r o =
    f.first ∷ f.second ∷ o.worker ∷ o.kind
    ∷ (digits 4 o.number ++ (digits 2 o.length ++ digits f.rank_width r))

-- the records of operations that stand behind those of `before`
unfoldable pub records_bytes : Form → List Operation → List Operation → List ℕ
records_bytes f before [] = []
records_bytes f before (o ∷ rest) =
    record_bytes f (rank_after before o) o ++ records_bytes f (before ++ o ∷ []) rest

-- "its worker byte holds the worker count p, its kind is 0, its number is the operation count n, its length is 0"
abbrev pub header : Trace → Operation
header t = record { worker = t.workers; kind = 0; number = size t; length = 0 }

-- the file of a trace
unfoldable pub bytes_of : Form → Trace → List ℕ
bytes_of f t = record_bytes f 0 (header t) ++ records_bytes f [] t.operations

-- what `operation_questions` want of an operation, in a trace of p workers
pub record Admitted (p : ℕ) (o : Operation) : Type 0 where
  pub worker : o.worker < p
  pub kind : (1 ≤ o.kind) × (o.kind ≤ 4)
  pub event : T (is_sync o.kind) → (o.number ≤ 255) × (o.length ≡ 0)
  pub cells : T (is_access o.kind) → (1 ≤ o.length) × (o.number + o.length ≤ 4294967296)

-- its number has four bytes, and its length two
pub record FitsRecord (o : Operation) : Type 0 where
  pub number : o.number < 4294967296
  pub length : o.length < 65536

-- a trace that the questions let pass, and whose operations fit their records
pub record WellFormed (t : Trace) : Type 0 where
  pub some : 1 ≤ t.workers
  pub most : t.workers ≤ 16
  pub few : size t ≤ 1024
  pub each : (k : ℕ) → k < size t → Admitted t.workers (operation t k)
  pub fits : (k : ℕ) → k < size t → FitsRecord (operation t k)

-- a file: every element is a byte
pub record Bytes (bytes : List ℕ) : Type 0 where
  pub byte : (i : ℕ) → get_or bytes i 0 < 256
