-- What the reader answers, by document 01's numbers.
-- Follows: document 01, "The questions" ("a refusal is the number and a place").
-- Differs: nowhere.
use Rattle.std.specs.Prelude.{cond, ℕ, eqb, Option, None, Some, Result, Ok, Err}
use Rattle.trace.specs.declared.Counts.{Counts}
use Rattle.trace.specs.declared.Refusal.{Refusal}
use Rattle.trace.specs.declared.TraceFile.{TraceFile}
use Rattle.trace.specs.Answer.{counts, counts_of, answer_by}
use Rattle.trace.specs.Reading.{Reading}

-- the worker count p and the operation count n, or the refusal
unfoldable pub answer_of : Reading → Result Counts Refusal
answer_of r = answer_by counts_of r

-- what is answered by a file that was opened, or not
abbrev pub opened : Result TraceFile Refusal → Result Counts Refusal
opened (Ok t) = Ok (counts t.workers t.operations)
opened (Err r) = Err r

-- which question refuses; none where its number is 0
abbrev pub refusing : ℕ → Option ℕ
refusing q = cond (eqb q 0) None (Some q)
