-- Which refusal a file gets by its questions.
-- Follows: document 01, "The questions": "the first 'no' gives its number"; "a refusal is the number and a place: the
-- operation number for 5 to 9; for 10 the lowest operation number outside the largest run", for 1 to 4 place 0.
-- Differs: nowhere. The first "no" of a header or a record is `FileRefusedFirst` (crate `trace`, specs/Refusals).
-- proofs/Questions shows that a file is refused exactly so.
use Rattle.std.specs.Prelude.{List, ◌≡◌, ℕ}
use Rattle.trace.specs.Reading.{reads, file_reading}
use Rattle.trace.specs.Refusals.{FileRefusedFirst}
use Rattle.trace.specs.Trace.{Trace}
use Rattle.model.specs.LargestRuns.{LowestOutside}

-- the first "no" is that of the header or a record; or the file reads as a trace, and k is the lowest operation outside
-- the largest run
pub data RefusedFile (bytes : List ℕ) (q k : ℕ) : Type 0 where
  by_reading : FileRefusedFirst bytes q k → RefusedFile bytes q k
  by_runs : (t : Trace) → file_reading bytes ≡ reads t → q ≡ 10 → LowestOutside t k → RefusedFile bytes q k
