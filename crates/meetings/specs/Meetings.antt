-- Notes of which operations meet which cells, in 32 slots: 32 words of operations for each slot; then, for each slot,
-- the first of its cells, the last of them, and which of the eight blocks of operations are noted.
-- Follows: nothing in the documents. A means: operations with the same cells are in conflict with the same others. The
-- struct is that of src/lib.rt.
use Rattle.std.specs.Prelude.{Bool, true, ◌≡◌, ℕ, ◌+◌, ◌*◌, ◌/◌, ◌%◌, ◌<◌, get_or}
use Rattle.words.specs.Words.{is_in}
use Rattle.conflicts.specs.declared.Cells.{Cells}
use Rattle.conflicts.specs.Cells.{place, met_at}
use Rattle.meetings.specs.declared.Meetings.{Meetings}

-- the cells of slot s
abbrev pub first_of : Meetings → ℕ → ℕ
first_of seen s = get_or seen.first s 0

abbrev pub last_of : Meetings → ℕ → ℕ
last_of seen s = get_or seen.last s 0

-- is a block noted in slot s?
abbrev pub is_noted : Meetings → ℕ → ℕ → Bool
is_noted seen s block = is_in (get_or seen.noted s 0) block

-- does slot s say that operation b meets its cells?
abbrev pub met_in : Meetings → ℕ → ℕ → Bool
met_in seen s b = is_in (get_or seen.met (32 * s + b / 32) 0) (b % 32)

-- nothing is noted
pub record Forgotten (seen : Meetings) : Type 0 where
  pub none : (k : ℕ) → k < 32 → get_or seen.noted k 0 ≡ 0

-- what is noted is so
pub record Notes (cells : Cells) (seen : Meetings) : Type 0 where
  pub each : (s b : ℕ) → s < 32 → b < 1024 → is_noted seen s (b / 128) ≡ true
      → met_in seen s b ≡ met_at cells (first_of seen s) (last_of seen s) (place b)

-- slot s is that of operation a's cells
pub record SlotFor (cells : Cells) (seen : Meetings) (a s : ℕ) : Type 0 where
  pub few : s < 32
  pub first : first_of seen s ≡ get_or cells.first (place a) 0
  pub last : last_of seen s ≡ get_or cells.last (place a) 0

-- in seen' the block is noted in slot s, what was noted there still is, and the slots have their cells
pub record BlockNoted (cells : Cells) (seen : Meetings) (s block : ℕ) (seen' : Meetings) : Type 0 where
  pub notes : Notes cells seen'
  pub noted : is_noted seen' s block ≡ true
  pub still : (k : ℕ) → is_noted seen s k ≡ true → is_noted seen' s k ≡ true
  pub first_same : first_of seen' s ≡ first_of seen s
  pub last_same : last_of seen' s ≡ last_of seen s
