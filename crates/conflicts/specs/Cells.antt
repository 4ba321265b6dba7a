-- The cells of a trace's operations in arrays, and sets of operations that meet a row of cells.
-- Follows: document 01, "Race list": "both Read or Write, at least one a Write, with a common cell".
-- Differs: nowhere. Means: no call's contract speaks of these. An operation that is no Read or Write has a first cell
-- above its last one in the arrays, so that it meets none; proofs/CellTests shows that this test is `in_conflict`. The
-- struct is that of src/lib.rt.
use Rattle.std.specs.Prelude.{Bool, cond, ◌&&◌, ◌||◌, List, ◌≡◌, ℕ, ◌+◌, ◌*◌, ◌-◌, ◌/◌, ◌%◌, ◌^◌, ◌<◌, ◌≤◌, min, T, leb, get_or}
use mir.Val.{bool_byte}
use Rattle.trace.specs.declared.Operation.{Operation}
use Rattle.trace.specs.Trace.{Trace, size, operation, is_write, is_access}
use Rattle.words.specs.Words.{is_in, word_of}
use Rattle.conflicts.specs.declared.Cells.{Cells}

-- 1 for true, 0 for false
abbrev pub bit : Bool → ℕ
bit b = bool_byte b

-- x is below 2 ^ j, so that b can be its bit j
pub record BitFits (x b j : ℕ) : Type 0 where
  pub few : x < 2 ^ j
  pub low : b < 2
  pub inside : j < 32

-- ---- the arrays

unfoldable pub first_cell : Operation → ℕ
first_cell o = cond (is_access o.kind) o.number 4294967295

unfoldable pub last_cell : Operation → ℕ
last_cell o = cond (is_access o.kind) (o.number + (o.length - 1)) 0

-- what question 9 wants of an operation, and that its length has two bytes
pub record CellsFit (o : Operation) : Type 0 where
  pub cells : T (is_access o.kind) → (1 ≤ o.length) × (o.number + o.length ≤ 4294967296)
  pub short : o.length < 65536

-- where the first cell of operation k stands, and the last one: in a block of 128 operations, four that are 32 apart
-- are neighbours
unfoldable pub place : ℕ → ℕ
place k = k / 128 * 128 + k % 32 * 4 + k / 32 % 4

-- is operation k marked as a Write?
abbrev pub marked : Cells → ℕ → Bool
marked cells k = is_in (get_or cells.writes (k / 32) 0) (k % 32)

-- what the arrays hold of operation k
pub record CellsAt (o : Operation) (cells : Cells) (k : ℕ) : Type 0 where
  pub fit : CellsFit o
  pub the_first_cell : get_or cells.first (place k) 0 ≡ first_cell o
  pub the_last_cell : get_or cells.last (place k) 0 ≡ last_cell o
  pub write : marked cells k ≡ is_write o.kind

-- they hold that of all operations of t
pub record CellsHold (t : Trace) (cells : Cells) : Type 0 where
  pub each : (k : ℕ) → k < size t → CellsAt (operation t k) cells k

-- is operation 32 v + i of t a Write?
abbrev pub writes_from : Trace → ℕ → ℕ → Bool
writes_from t v i = is_write (operation t (32 * v + i)).kind

-- of the operations below k the cells are read, and those that are Writes are marked, and no others
pub record CellsRead (t : Trace) (k : ℕ) (cells : Cells) : Type 0 where
  pub fit : (j : ℕ) → j < k → CellsFit (operation t j)
  pub the_first_cell : (j : ℕ) → j < k → get_or cells.first (place j) 0 ≡ first_cell (operation t j)
  pub the_last_cell : (j : ℕ) → j < k → get_or cells.last (place j) 0 ≡ last_cell (operation t j)
  pub marks : (v : ℕ) → v < 32 → get_or cells.writes v 0 ≡ word_of (writes_from t v) (min 32 (k - 32 * v))

-- ---- the operations that meet a row of cells

-- does each of two rows of cells start at or before the last one of the other?
unfoldable pub meet : ℕ → ℕ → ℕ → ℕ → Bool
meet first last other-first other_last = leb first other_last && leb other-first last

-- do the cells that stand at a place meet these?
abbrev pub met_at : Cells → ℕ → ℕ → ℕ → Bool
met_at cells first last p = meet first last (get_or cells.first p 0) (get_or cells.last p 0)

-- four words tell which operations of a block meet these cells
pub record BlockMet (cells : Cells) (first last block : ℕ) (words : List ℕ) : Type 0 where
  pub met : (i : ℕ) → i < 128
      → is_in (get_or words (i / 32) 0) (i % 32) ≡ met_at cells first last (place (128 * block + i))

-- ---- the operations in conflict with one

-- r holds those operations from 32 v on that are in `met`, where one of the two is marked as a Write
pub record ConflictsIn (cells : Cells) (a met v r : ℕ) : Type 0 where
  pub each : (i : ℕ) → i < 32 → is_in r i ≡ is_in met i && (marked cells a || marked cells (32 * v + i))
