-- Which refusal a file and a lent output get by the file's questions and 17.
-- Follows: document 01, "The questions": "the tidy file [then asks] 17"; its place is 0.
-- Differs: nowhere. `RefusedFile`, for the file's questions, is in the crate `accept`, and `RefusedNext`, for a further
-- question, in `trace`. proofs/Questions shows that the call refuses exactly so.
use Rattle.std.specs.Prelude.{List, [], ◌∷◌, ◌++◌, ℕ, ◌<◌, ◌≤◌, length}
use Rattle.trace.specs.Refusals.{no_place, RefusedNext, file_numbers}
use Rattle.trace.specs.Trace.{Trace}
use Rattle.accept.specs.Acceptance.{AcceptedTrace}
use Rattle.accept.specs.Refusals.{RefusedFile}

-- the file is accepted, and the output, of `room` bytes, holds at least as many as the file
pub record AcceptedOutput (bytes : List ℕ) (room : ℕ) (t : Trace) : Type 0 where
  pub accepted : AcceptedTrace bytes t
  pub output_holds : length bytes ≤ room

-- the first "no" is one of the file's questions; or the file is accepted, and the output holds fewer bytes than it
abbrev pub RefusedOutput : List ℕ → ℕ → ℕ → ℕ → Type 0
RefusedOutput bytes room =
    RefusedNext (RefusedFile bytes) (AcceptedTrace bytes) 17 (λ t. room < length bytes) no_place

-- the numbers of these questions
abbrev pub output_numbers : List ℕ
output_numbers = file_numbers ++ 17 ∷ []
