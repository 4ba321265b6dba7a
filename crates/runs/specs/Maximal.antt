-- Maximal valid executions and largest runs.
-- Follows: report 1084, Definition 1 and the paragraph after it; document 01, "Runs".
-- Differs: the report has Post and Wait alone, here the rule is any. Where Definition 1 says that the execution
-- contains every operation that the rule allows, here nothing but a can be added to it. The report says of one
-- execution that it is maximal and that it holds as many operations as possible; here these are two definitions,
-- shown to be the same in proofs/RunsWithout. The report has no execution with nothing excluded; document 01 has,
-- and so it is here.
use Rattle.std.specs.Prelude.{◌≡◌, List, [], ◌∷◌, ◌++◌, ◌≢◌, ℕ, ◌≤◌, length}
use Rattle.basics.specs.Membership.{◌∉◌}
use Rattle.runs.specs.Rule.{Rule}
use Rattle.runs.specs.Run.{Run}

-- a run to which nothing can be added
pub record Maximal (R : Rule) (m : List ℕ) : Type 0 where
  pub is_a_run : Run R m
  pub maximal : (x : ℕ) → Run R (m ++ x ∷ []) → ⊥

-- document 01: "the largest run of the trace", the run with the most operations
pub record Largest (R : Rule) (m : List ℕ) : Type 0 where
  pub is_a_run : Run R m
  pub most : (r : List ℕ) → Run R r → length r ≤ length m

-- report 1084: an MVE(a), a maximal valid execution; a run that lacks a, to which nothing but a can be added
pub record MaximalWithout (R : Rule) (a : ℕ) (m : List ℕ) : Type 0 where
  pub is_a_run : Run R m
  pub lacks : a ∉ m
  pub maximal : (x : ℕ) → Run R (m ++ x ∷ []) → x ≡ a

-- document 01: "the largest run without operation a", the "run lacking a with the most operations"
pub record LargestWithout (R : Rule) (a : ℕ) (m : List ℕ) : Type 0 where
  pub is_a_run : Run R m
  pub lacks : a ∉ m
  pub most : (r : List ℕ) → Run R r → a ∉ r → length r ≤ length m

-- report 1084: "we can pick the next operation in any process". From r, operations other than a are added one at a
-- time while any may run, in whatever order; m is where that ends.
pub data AddingEnds (R : Rule) (a : ℕ) : List ℕ → List ℕ → Type 0 where
  ended : {r : List ℕ} → ((x : ℕ) → x ≢ a → Run R (r ++ x ∷ []) → ⊥) → AddingEnds R a r r
  added : {r m : List ℕ} (x : ℕ) → x ≢ a → Run R (r ++ x ∷ []) → AddingEnds R a (r ++ x ∷ []) m → AddingEnds R a r m
