-- `ask_records` meets its contract. The invariant: what reading the file gives is what the records from k on give.
-- Assumes nothing.
use mathlib.Core.Path.{◌≡◌}
use Rattle.trace.specs.Form.{base}
use Rattle.trace.specs.Reading.{file_reading}
use Rattle.reader.proofs.ReaderSteps.{reading_at}
use Rattle.reader.proofs.ask_records.Given as goal

abbrev pub invariant-loop-k : goal.invariant-loop-k
invariant-loop-k l = file_reading l.file ≡ reading_at base l.p l.n l.file l.k
