-- `count_races` meets its contract. The invariant: the races whose lower operation is below a are counted.
-- Assumes nothing.
use mathlib.Core.Path.{◌≡◌}
use Rattle.trace.specs.Reading.{trace_of}
use Rattle.race_rows.specs.Rows.{Ready}
use Rattle.races.proofs.PairWriting.{Counted}
use Rattle.races.proofs.count_races.Given as goal

abbrev pub invariant-loop-a : goal.invariant-loop-a
invariant-loop-a l =
    Counted (trace_of l.filled.trace.bytes.now) l.a l.count l.counts
    × Ready l.search
    × (l.search.filled ≡ l.filled)
    × (l.search.next ≡ l.a)
