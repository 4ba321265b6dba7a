-- Two operations of an accepted file, and which refusal a file and two numbers get by the file's questions, 12 and 13.
-- Follows: document 01, "The questions": "the pair order [asks] 12, 13"; their place is 0. The letter, demand 3: "for
-- every accepted trace and every two different operations a and b of it".
-- Differs: nowhere. `RefusedFile`, for the file's questions, is in the crate `accept`, and `RefusedNext`, for a further
-- question, in `trace`. proofs/Questions shows that the call refuses exactly so.
use Rattle.std.specs.Prelude.{List, [], ◌∷◌, ◌++◌, ◌⊎◌, ◌≢◌, ◌≡◌, ℕ, ◌<◌, ◌≤◌}
use Rattle.trace.specs.Refusals.{no_place, RefusedNext, file_numbers}
use Rattle.trace.specs.Trace.{Trace, size}
use Rattle.accept.specs.Acceptance.{AcceptedTrace}
use Rattle.accept.specs.Refusals.{RefusedFile}

-- the file is accepted with trace t, and a and b are operations of it
pub record AcceptedNumbers (bytes : List ℕ) (a b : ℕ) (t : Trace) : Type 0 where
  pub accepted : AcceptedTrace bytes t
  pub first_below : a < size t
  pub second_below : b < size t

-- two different ones
pub record AcceptedPair (bytes : List ℕ) (a b : ℕ) (t : Trace) : Type 0 where
  pub numbers : AcceptedNumbers bytes a b t
  pub differ : a ≢ b

-- the first "no" is one of the file's questions; or the file is accepted, and one of the numbers is not below n
abbrev pub RefusedNumbers : List ℕ → ℕ → ℕ → ℕ → ℕ → Type 0
RefusedNumbers bytes a b =
    RefusedNext (RefusedFile bytes) (AcceptedTrace bytes) 12 (λ t. (size t ≤ a) ⊎ (size t ≤ b)) no_place

-- or both are below n, and they are the same
abbrev pub RefusedPair : List ℕ → ℕ → ℕ → ℕ → ℕ → Type 0
RefusedPair bytes a b = RefusedNext (RefusedNumbers bytes a b) (AcceptedNumbers bytes a b) 13 (λ t. a ≡ b) no_place

-- the numbers of these questions
abbrev pub pair_numbers : List ℕ
pair_numbers = file_numbers ++ 12 ∷ 13 ∷ []
