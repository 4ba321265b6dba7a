-- What the rows of races are found from, one row after the other.
-- Follows: document 01, "Race list".
-- Differs: nowhere. Means: no call's contract speaks of these.
use Rattle.std.specs.Prelude.{List, ℕ}
use Rattle.trace.specs.Trace.{Trace}
use Rattle.conflicts.specs.declared.Cells.{Cells}
use Rattle.conflicts.specs.Cells.{CellsHold}
use Rattle.meetings.specs.declared.Meetings.{Meetings}
use Rattle.meetings.specs.Meetings.{Notes}
use Rattle.unordered.specs.declared.Unordered.{Unordered}
use Rattle.unordered.specs.Kept.{Carried}
use Rattle.trace.specs.Reading.{trace_of}
use Rattle.race_rows.specs.declared.SearchInPlace.{SearchInPlace}

-- what the search goes by, before row a
pub record Searching (t : Trace) (table : List ℕ) (a : ℕ) (cells : Cells) (kept : Unordered) (seen : Meetings) : Type 0
  where
    pub cells_hold : CellsHold t cells
    pub carried : Carried t table a kept
    pub notes : Notes cells seen

-- the search goes by the next row
abbrev pub Ready : SearchInPlace → Type 0
Ready s = Searching (trace_of s.filled.trace.bytes.now) s.filled.table.now s.next s.cells s.kept s.seen
