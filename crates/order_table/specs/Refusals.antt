-- Which refusal a file and a lent table get by the file's questions and 11.
-- Follows: document 01, "The questions": "The table then asks 11"; its place is 0.
-- Differs: nowhere. `RefusedFile`, for the file's questions, is in the crate `accept`, and `RefusedNext`, for a further
-- question, in `trace`. proofs/Questions shows that the call refuses exactly so.
use Rattle.std.specs.Prelude.{List, [], ◌∷◌, ◌++◌, ℕ, ◌*◌, ◌<◌, ◌≤◌}
use Rattle.trace.specs.Refusals.{no_place, RefusedNext, file_numbers}
use Rattle.trace.specs.Trace.{Trace, size}
use Rattle.accept.specs.Acceptance.{AcceptedTrace}
use Rattle.accept.specs.Refusals.{RefusedFile}

-- the file is accepted, and the table, of `room` numbers, holds at least n × p
pub record AcceptedTable (bytes : List ℕ) (room : ℕ) (t : Trace) : Type 0 where
  pub accepted : AcceptedTrace bytes t
  pub table_holds : size t * t.workers ≤ room

-- the first "no" is one of the file's questions; or the file is accepted, and the table holds fewer than n × p numbers
abbrev pub RefusedTable : List ℕ → ℕ → ℕ → ℕ → Type 0
RefusedTable bytes room =
    RefusedNext (RefusedFile bytes) (AcceptedTrace bytes) 11 (λ t. room < size t * t.workers) no_place

-- the numbers of these questions
abbrev pub table_numbers : List ℕ
table_numbers = file_numbers ++ 11 ∷ []
