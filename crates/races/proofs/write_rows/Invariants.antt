-- `write_rows` meets its contract. The invariant: the races whose lower operation is below a are written.
-- Assumes nothing.
use mathlib.Core.Path.{◌≡◌}
use Rattle.trace.specs.Reading.{trace_of}
use Rattle.race_rows.specs.Rows.{Ready}
use Rattle.races.proofs.PairWriting.{RowsWritten}
use Rattle.races.proofs.write_rows.Given as goal

abbrev pub invariant-loop-a : goal.invariant-loop-a
invariant-loop-a l =
    RowsWritten (trace_of l.filled.trace.bytes.now) l.a l.at l.initial.lower l.lower l.initial.higher l.higher
    × Ready l.search
    × (l.search.filled ≡ l.filled)
    × (l.search.next ≡ l.a)
