-- The questions of a file: which files are accepted, and what the call answers.
-- Follows: document 01, "The questions".
-- Differs: question 10 is asked of what is computed, `first_outside`. That a file which reads as a trace is refused 10
-- exactly if its trace has no complete run, and that the place is the lowest operation outside every largest run, is
-- shown in proofs/Questions.
use Rattle.std.specs.Prelude.{Bool, List, ◌≡◌, ℕ, leb, Result, Ok}
use Rattle.trace.specs.declared.Counts.{Counts}
use Rattle.trace.specs.declared.Refusal.{Refusal}
use Rattle.trace.specs.Answer.{counts, counts_of, answer_by}
use Rattle.trace.specs.Reading.{Reading, reads, then_ask, file_reading}
use Rattle.trace.specs.Trace.{Trace, size}
use Rattle.model.specs.Computed.{first_outside}

-- 10. "Has the trace a complete run?": no operation is outside the largest run
abbrev pub none_outside : Trace → Bool
none_outside t = leb (size t) (first_outside t)

-- the file's questions: the refusal by the first "no", or the trace; the place of 10 is "the lowest operation number
-- outside the largest run"
unfoldable pub acceptance : List ℕ → Reading
acceptance bytes = then_ask 10 none_outside first_outside (file_reading bytes)

-- document 01: "A file and its trace are accepted when no question up to 10, in the order asked, refuses the file."
pub record AcceptedTrace (bytes : List ℕ) (t : Trace) : Type 0 where
  pub passes : acceptance bytes ≡ reads t

-- the worker count p and the operation count n of an accepted file
abbrev pub Accepted : ℕ → ℕ → Result Counts Refusal
Accepted p n = Ok (counts p n)

-- those counts, or the refusal's number and place
abbrev pub answer_of : Reading → Result Counts Refusal
answer_of = answer_by counts_of

-- what the call answers
unfoldable pub accept_answer : List ℕ → Result Counts Refusal
accept_answer bytes = answer_of (acceptance bytes)
