-- `write_races` meets its contract. The invariant: the races whose lower operation is below a are written.
-- Assumes nothing.
use mathlib.Core.Path.{◌≡◌}
use Prim.Native.Nat.{◌-◌}
use Rattle.trace.specs.Reading.{trace_of}
use Rattle.trace.specs.Trace.{size}
use Rattle.race_rows.specs.Rows.{Ready}
use Rattle.race_list.proofs.RecordWriting.{RowsDone, rows_over}
use Rattle.race_list.proofs.write_races.Given as goal

abbrev pub invariant-loop-at : goal.invariant-loop-at
invariant-loop-at l =
    RowsDone (trace_of l.filled.trace.bytes.now) l.count l.a l.at
    × (l.list ≡ rows_over (trace_of l.filled.trace.bytes.now) l.initial.list l.a)
    × Ready l.search
    × (l.search.filled ≡ l.filled)
    × (l.search.next ≡ l.a)

abbrev pub decreases-loop-at : goal.decreases-loop-at
decreases-loop-at l = size (trace_of l.filled.trace.bytes.now) - l.a
