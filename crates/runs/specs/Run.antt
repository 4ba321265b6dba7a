-- Runs, complete runs, and which of two operations stands before the other.
-- Follows: document 01, "Runs".
-- Differs: what must stand before an operation is left to the rule.
use Rattle.std.specs.Prelude.{◌≡◌, List, ◌∷◌, ◌++◌, ℕ, ◌<◌, T}
use Rattle.basics.specs.Membership.{◌∈◌, Different}
use Rattle.runs.specs.Rule.{Rule}

-- document 01: "A run is a list of different operations in which" the rule allows each after those before it.
-- A run r "is carried on by adding operations at its end so that the longer list is a run too": then r ++ s is a run.
pub record Run (R : Rule) (r : List ℕ) : Type 0 where
  pub below : {x : ℕ} → x ∈ r → x < R.size
  pub different : Different r
  pub allowed : (u v : List ℕ) (x : ℕ) → r ≡ u ++ x ∷ v → T (R.may u x)

-- document 01: "A run is complete when it holds all n operations."
pub record Complete (R : Rule) (r : List ℕ) : Type 0 where
  pub is_a_run : Run R r
  pub holds : (x : ℕ) → x < R.size → x ∈ r

-- a stands before b in r: both stand in it, b after a
pub record StandsBefore (a b : ℕ) (r : List ℕ) : Type 0 where
  pub before : List ℕ
  pub after : List ℕ
  pub split : r ≡ before ++ a ∷ after
  pub later : b ∈ after
