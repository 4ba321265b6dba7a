-- The races of one operation with later ones, found word by word: what is unordered with it, kept for its worker, and
-- in conflict with it.
-- Follows: document 01, "Race list".
-- Differs: nowhere. Means: no call's contract speaks of these.
use Rattle.std.specs.Prelude.{true, false, ◌≡◌, ℕ, ◌+◌, ◌*◌, ◌/◌, ◌<◌, ◌≤◌, ltb}
use Rattle.trace.specs.Trace.{Trace, size, worker_of}
use Rattle.words.specs.Words.{is_in}
use Rattle.conflicts.specs.declared.Cells.{Cells}
use Rattle.meetings.specs.declared.Meetings.{Meetings}
use Rattle.unordered.specs.declared.Unordered.{Unordered}
use Rattle.conflicts.specs.Cells.{CellsHold}
use Rattle.meetings.specs.Meetings.{first_of, last_of, is_noted, Notes, SlotFor}
use Rattle.unordered.specs.Kept.{held, Now}
use Rattle.race_model.specs.RaceList.{is_race}

-- r holds those of the 32 operations from 32 v on that stand after a
pub record After (a v r : ℕ) : Type 0 where
  pub each : (i : ℕ) → i < 32 → is_in r i ≡ ltb a (32 * v + i)

-- r holds those of the 32 operations from 32 v on that race with a
pub record RaceWord (t : Trace) (a v r : ℕ) : Type 0 where
  pub each : (i : ℕ) → i < 32 → is_in r i ≡ is_race t a (32 * v + i)

-- where the kept set of worker w has an operation of the blocks from `from` to `to`, its block is noted in the slot
abbrev pub NotedTo : Unordered → ℕ → Meetings → ℕ → ℕ → ℕ → Type 0
NotedTo kept w seen slot from to =
    (b : ℕ) → from ≤ b / 128 → b / 128 < to → held kept w b ≡ true → is_noted seen slot (b / 128) ≡ true

-- what is known of row a before its blocks are noted
pub record ToNote (t : Trace) (a : ℕ) (cells : Cells) (kept : Unordered) (seen : Meetings) (w slot : ℕ) : Type 0 where
  pub worker : w ≡ worker_of t a
  pub known : w < 16
  pub inside : a < size t
  pub few : size t ≤ 1024
  pub cells_hold : CellsHold t cells
  pub free : Now t a kept
  pub notes : Notes cells seen
  pub slot_for : SlotFor cells seen a slot

-- what its words are found from
pub record RowReady (t : Trace) (a : ℕ) (cells : Cells) (kept : Unordered) (seen : Meetings) (w slot : ℕ) : Type 0 where
  pub to_note : ToNote t a cells kept seen w slot
  pub noted : NotedTo kept w seen slot (a / 128) 8

-- no operation of a block is in the kept set of worker w
abbrev pub BlockEmpty : Unordered → ℕ → ℕ → Type 0
BlockEmpty kept w block = (b : ℕ) → b / 128 ≡ block → held kept w b ≡ false

-- a block is done in slot s: where the set of worker w has an operation in it, it is noted; what was noted still is
pub record BlockDone (cells : Cells) (kept : Unordered) (seen : Meetings) (w s block : ℕ) (seen' : Meetings) : Type 0
  where
    pub notes : Notes cells seen'
    pub done : (b : ℕ) → b / 128 ≡ block → held kept w b ≡ true → is_noted seen' s block ≡ true
    pub still : (k : ℕ) → is_noted seen s k ≡ true → is_noted seen' s k ≡ true
    pub first_same : first_of seen' s ≡ first_of seen s
    pub last_same : last_of seen' s ≡ last_of seen s
