-- What a call leaves in lent memory, by how its questions come out.
-- Follows: document 01, "The questions": "Refused calls write nothing".
-- Differs: nowhere. The race list's lists are written with no races after a refusal (crates `races`, `race_list`), and
-- its table is the order table's, so that 16 leaves it filled.
use Rattle.std.specs.Prelude.{List}
use Rattle.trace.specs.Reading.{Reading, refused, reads}
use Rattle.trace.specs.Trace.{Trace}
use Rattle.lent.specs.Written.{written_over}

-- the memory `lent`: after a refusal as it was; where the trace t passes, with `new t` at its front
abbrev pub left_by : {A : Type 0} → (Trace → List A) → Reading → List A → List A
left_by new (refused q k) lent = lent
left_by new (reads t) lent = written_over (new t) lent
