-- Largest runs of a trace, with and without an operation, and the place of question 10.
-- Follows: report 1084, Definition 1 and the paragraph after it; document 01, "Runs" and "The questions".
-- Differs: the report speaks of Post and Wait alone, document 01 also of Read and Write. Where Definition 1 says that
-- the execution contains every operation that its clauses allow, here nothing but a can be added to it.
-- `ContainsAllowed` is the report's wording, but that what has to "precede" an operation which is not in the execution
-- is said to be in it. That these, and "with the most operations", are the same is shown in proofs/Largest, and so are
-- "its set is unique" and "contains every run lacking a".
use Rattle.std.specs.Prelude.{List, [], ◌∷◌, ◌++◌, ◌≢◌, ◌≡◌, ℕ, ◌<◌, ◌≤◌, length}
use Rattle.basics.specs.Membership.{◌∈◌, ◌∉◌}
use Rattle.trace.specs.Trace.{Trace, size}
use Rattle.model.specs.Runs.{Earlier, Waits, PostFor, RunOf}

-- report 1084: an MVE(a), a maximal valid execution; a run that lacks a, to which nothing but a can be added
pub record MaximalExecution (t : Trace) (a : ℕ) (m : List ℕ) : Type 0 where
  pub is_a_run : RunOf t m
  pub lacks : a ∉ m
  pub maximal : (x : ℕ) → RunOf t (m ++ x ∷ []) → x ≡ a

-- report 1084, Definition 1: it "contains every operation such that" (1) it is not a, and (2) the worker's earlier
-- ones, and (3) for a Wait a Post of its event, are in it
pub record ContainsAllowed (t : Trace) (a : ℕ) (m : List ℕ) : Type 0 where
  pub contains : (x : ℕ) → x < size t → x ≢ a → ((y : ℕ) → Earlier t y x → y ∈ m)
      → (Waits t x → (y : ℕ) × (y ∈ m) × PostFor t x y) → x ∈ m

-- document 01: "The largest run without operation a is the run lacking a with the most operations"
pub record LargestRunWithout (t : Trace) (a : ℕ) (m : List ℕ) : Type 0 where
  pub is_a_run : RunOf t m
  pub lacks : a ∉ m
  pub most : (r : List ℕ) → RunOf t r → a ∉ r → length r ≤ length m

-- document 01: "The largest run of the trace is the same with nothing excluded."
pub record LargestRun (t : Trace) (m : List ℕ) : Type 0 where
  pub is_a_run : RunOf t m
  pub most : (r : List ℕ) → RunOf t r → length r ≤ length m

-- document 01, the place of a refusal 10: "the lowest operation number outside the largest run". There is a largest
-- run, and each holds the same operations (proofs/Largest), so that every one is meant.
pub record LowestOutside (t : Trace) (k : ℕ) : Type 0 where
  pub operation : k < size t
  pub outside : (m : List ℕ) → LargestRun t m → k ∉ m
  pub lowest : (m : List ℕ) → LargestRun t m → (j : ℕ) → j < k → j ∈ m
