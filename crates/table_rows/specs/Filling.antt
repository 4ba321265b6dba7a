-- Filling the table worker by worker: what the inner functions know, and what they do.
-- Follows: document 01, "Order table and order".
-- Differs: nowhere. Means: the call's contract speaks of none of these.
use Rattle.std.specs.Prelude.{List, ◌++◌, ◌≡◌, ℕ, ◌+◌, ◌*◌, ◌<◌, ◌≤◌, length, get_or, set, take, drop}
use Rattle.runs.specs.Workers.{earlier}
use Rattle.trace.specs.Reading.{trace_of}
use Rattle.trace.specs.Trace.{Trace, size, worker_of}
use Rattle.model.specs.Computed.{row}
use Rattle.index.specs.Indexed.{Places}
use Rattle.index.specs.Steps.{operation_at}
use Rattle.accept.specs.Acceptance.{AcceptedTrace}

-- an accepted file, and a table that holds n × p numbers
pub record Fillable (bytes : List ℕ) (p n : ℕ) (table : List ℕ) : Type 0 where
  pub accepted : AcceptedTrace bytes (trace_of bytes)
  pub room : n * p ≤ length table

-- the counts and the table have room for the p numbers of row k
pub record RoomAt (p k : ℕ) (counts table : List ℕ) : Type 0 where
  pub workers : p ≤ 16
  pub few : k * p + p ≤ 16384
  pub counts_hold : p ≤ length counts
  pub table_holds : k * p + p ≤ length table

-- the table with a row written to the p numbers from k × p on
abbrev pub row_put : ℕ → ℕ → List ℕ → List ℕ → List ℕ
row_put p k counts table = take (k * p) table ++ (counts ++ drop p (drop (k * p) table))

-- where operation k stands in the index
abbrev pub place_of : Trace → List ℕ → ℕ → ℕ
place_of t starts k = get_or starts (worker_of t k) 0 + earlier (worker_of t) k

-- the table was `old`: the rows of the operations at the places below `at` are filled, and nothing is written behind
-- the rows
pub record RowsTo (t : Trace) (starts : List ℕ) (at : ℕ) (old now : List ℕ) : Type 0 where
  pub same_length : length now ≡ length old
  pub rows : (k q : ℕ) → k < size t → place_of t starts k < at → q < t.workers
      → get_or now (k * t.workers + q) 0 ≡ get_or (row t k) q 0
  pub past : (i : ℕ) → size t * t.workers ≤ i → get_or now i 0 ≡ get_or old i 0

-- whatever the table was, and the rows before worker q's filled: now worker q's are filled too
abbrev pub FillsPart : Trace → List ℕ → ℕ → List ℕ → List ℕ → Type 0
FillsPart t starts q before now =
    (old : List ℕ) → RowsTo t starts (get_or starts q 0) old before → RowsTo t starts (get_or starts (q + 1) 0) old now

-- ---- a stretch of one worker's rows, which differ in its own count alone

-- there is room for the rows of the operations in worker q's part of the order, those behind i others and fewer than j
pub record RoomAlong (p q i j : ℕ) (order starts counts table : List ℕ) : Type 0 where
  pub up : i ≤ j
  pub own : q < 16
  pub known : q < p
  pub counters : length counts ≡ 16
  pub places : get_or starts q 0 + j ≤ 1024
  pub each : (m : ℕ) → i ≤ m → m < j → RoomAt p (get_or order (get_or starts q 0 + m) 0) counts table

-- these counts, with m operations of worker q, are the row of its operation with m earlier ones, from i up to j
pub record RowsOf (t : Trace) (q i j : ℕ) (counts : List ℕ) : Type 0 where
  pub inside : (m : ℕ) → i ≤ m → m < j → operation_at t q m < size t
  pub each : (m : ℕ) → i ≤ m → m < j → take t.workers (set counts q m) ≡ row t (operation_at t q m)

-- where the counts give these rows (`RowsOf`), they are filled too
pub record RowsAlong (order starts : List ℕ) (p q i j : ℕ) (counts before now : List ℕ) : Type 0 where
  pub same_length : length now ≡ length before
  pub rows : (t : Trace) (n : ℕ) → Places t n order starts → t.workers ≡ p → q < p → RowsOf t q i j counts
      → (old : List ℕ) → RowsTo t starts (get_or starts q 0 + i) old before
      → RowsTo t starts (get_or starts q 0 + j) old now
