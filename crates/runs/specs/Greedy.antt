-- Runs by an order of preference, computed; and what is computed from them.
-- Follows: report 1084, "Problem statement" ("mimicking the way an actual execution would advance"); document 01,
-- "Order table and order" and "Two runs".
-- Differs: the preference is any list of the operations. Document 01's, the lowest-numbered worker first, is one of
-- them (proofs/LowestWorker).
-- Nothing here has to be believed: proofs/GreedyRuns, proofs/SharedOrder and proofs/HoldingBack show what it is.
-- The recursion counts down a number of steps; no run is longer than the rule's size, so that many always suffice.
use Rattle.std.specs.Prelude.{Bool, not, ◌&&◌, cond, List, [], ◌∷◌, ◌++◌, ℕ, zero, suc, ◌<◌, eqb}
use Rattle.std.proofs.Math.Option.{Option, none, some}
use Rattle.basics.specs.Membership.{◌∈◌, mem}
use Rattle.runs.specs.Rule.{Rule, without}
use Rattle.runs.specs.Steps.{addable, done}

-- an order of preference of n operations lists each of them
pub record Preference (n : ℕ) (order : List ℕ) : Type 0 where
  pub lists : {x : ℕ} → x < n → x ∈ order

-- the first of the list that passes
abbrev pub first_that : (ℕ → Bool) → List ℕ → Option ℕ
first_that p [] = none
first_that p (x ∷ l) = let r = first_that p l in cond (p x) (some x) r

-- what was found and what follows it, or nothing
abbrev pub found_then : Option ℕ → (ℕ → List ℕ) → List ℕ
found_then none f = []
found_then (some x) f = x ∷ f x

-- from d done, k times or until nothing can be added: the first in the order that can be added
abbrev pub greedy_from : Rule → List ℕ → ℕ → List ℕ → List ℕ
greedy_from R order zero d = []
greedy_from R order (suc k) d = found_then (first_that (addable R d) order) (λ x. greedy_from R order k (x ∷ d))

-- the greedy run: from nothing, to the end
abbrev pub greedy : Rule → List ℕ → List ℕ
greedy R order = greedy_from R order R.size []

-- the test of `MustPrecede`
abbrev pub must_precede : Rule → List ℕ → ℕ → ℕ → Bool
must_precede R order a b = not (eqb a b) && not (mem b (greedy (without R a) order))

-- the run that holds b back (document 01, "Two runs"): without b until nothing can be added, then on with b allowed
abbrev pub holding_back : Rule → List ℕ → ℕ → List ℕ
holding_back R order b =
    let r = greedy (without R b) order in
    r ++ greedy_from R order R.size (done [] r)
