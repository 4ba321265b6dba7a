-- Which of two operations comes first: in every complete run, and by report 1084.
-- Follows: the letter, demand 3; report 1084, Definition 2; document 01, "Order table and order".
-- Differs from Definition 2 as document 01 does: there an operation precedes itself, here the two differ.
use Rattle.std.specs.Prelude.{List, ◌≢◌, ℕ}
use Rattle.basics.specs.Membership.{◌∉◌}
use Rattle.runs.specs.Run.{StandsBefore}
use Rattle.trace.specs.Trace.{Trace}
use Rattle.model.specs.Runs.{CompleteRunOf}
use Rattle.model.specs.LargestRuns.{MaximalExecution}

-- document 01: a is "certain before" b "when they differ and b is not in the largest run without a"; report 1084:
-- must-have-happened-before. Such a run exists and its set is unique (proofs/Largest), so that "in none of them", as
-- here, is "not in one of them". It is said of operations: a number that is none is in no run, and question 12 keeps it
-- from every call.
pub record MustPrecedeIn (t : Trace) (a b : ℕ) : Type 0 where
  pub differ : a ≢ b
  pub outside : (m : List ℕ) → MaximalExecution t a m → b ∉ m

-- neither of the two is certain before the other
pub record Unordered (t : Trace) (a b : ℕ) : Type 0 where
  pub not_before : MustPrecedeIn t a b → ⊥
  pub not_after : MustPrecedeIn t b a → ⊥

-- the letter: "a stands before b in every complete run"
abbrev pub AlwaysBefore : Trace → ℕ → ℕ → Type 0
AlwaysBefore t a b = (r : List ℕ) → CompleteRunOf t r → StandsBefore a b r

-- in some complete run
abbrev pub SometimesBefore : Trace → ℕ → ℕ → Type 0
SometimesBefore t a b = (r : List ℕ) × CompleteRunOf t r × StandsBefore a b r
