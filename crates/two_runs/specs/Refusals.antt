-- Which refusal a file, two numbers and two buffers get by the file's questions and 12 to 15.
-- Follows: document 01, "The questions": "the two runs [ask] 12 to 15"; their place is 0.
-- Differs: nowhere. `RefusedPair`, for the pair order's questions, is in the crate `pair_order`, and `RefusedNext`, for
-- a further question, in `trace`. proofs/Questions shows that the call refuses exactly so.
use Rattle.std.specs.Prelude.{List, [], ◌∷◌, ◌++◌, ◌⊎◌, ℕ, ◌<◌, ◌≤◌}
use Rattle.trace.specs.Refusals.{no_place, RefusedNext}
use Rattle.trace.specs.Trace.{Trace, size}
use Rattle.model.specs.Orders.{MustPrecedeIn, Unordered}
use Rattle.pair_order.specs.Refusals.{AcceptedPair, RefusedPair, pair_numbers}

-- two different operations of an accepted trace, neither certain before the other
pub record AcceptedUnordered (bytes : List ℕ) (a b : ℕ) (t : Trace) : Type 0 where
  pub pair : AcceptedPair bytes a b t
  pub unordered : Unordered t a b

-- and the two buffers, of x and y numbers, each hold at least n
pub record AcceptedRuns (bytes : List ℕ) (a b x y : ℕ) (t : Trace) : Type 0 where
  pub accepted : AcceptedUnordered bytes a b t
  pub first_holds : size t ≤ x
  pub second_holds : size t ≤ y

-- the first "no" is one of the pair order's questions; or a and b are different operations of an accepted trace, and
-- one is certain before the other
abbrev pub RefusedOrdered : List ℕ → ℕ → ℕ → ℕ → ℕ → Type 0
RefusedOrdered bytes a b =
    RefusedNext (RefusedPair bytes a b) (AcceptedPair bytes a b) 14 (λ t. MustPrecedeIn t a b ⊎ MustPrecedeIn t b a)
    no_place

-- or neither is, and one of the buffers holds fewer than n numbers
abbrev pub RefusedRuns : List ℕ → ℕ → ℕ → ℕ → ℕ → ℕ → ℕ → Type 0
RefusedRuns bytes a b x y =
    RefusedNext (RefusedOrdered bytes a b) (AcceptedUnordered bytes a b) 15 (λ t. (x < size t) ⊎ (y < size t)) no_place

-- the numbers of these questions
abbrev pub runs_numbers : List ℕ
runs_numbers = pair_numbers ++ 14 ∷ 15 ∷ []
