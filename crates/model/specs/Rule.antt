-- The rule of document 01 as a rule of the theory of runs: which operation may be next, given those that are done.
-- Follows: document 01, "Runs".
-- Differs: it is a test, so that runs can be computed. proofs/TraceRuns shows that its runs are the runs of specs/Runs.
use Rattle.std.specs.Prelude.{Bool, ◌&&◌, cond, List, [], ◌∷◌, ℕ, ◌<◌, eqb}
use Rattle.basics.specs.Membership.{all_of, any_of}
use Rattle.runs.specs.Rule.{Rule}
use Rattle.runs.specs.Workers.{turn, canonical}
use Rattle.trace.specs.Trace.{Trace, size, operation, worker_of, is_post, is_wait}

-- is operation y a Post of event e?
abbrev pub posts : Trace → ℕ → ℕ → Bool
posts t e y = is_post (operation t y).kind && eqb (operation t y).number e

-- is event e posted when d is done? Nothing resets it.
abbrev pub posted : Trace → ℕ → List ℕ → Bool
posted t e d = any_of (posts t e) d

-- the events without which operation x may not run: a Wait's event
abbrev pub needed : Trace → ℕ → List ℕ
needed t x = cond (is_wait (operation t x).kind) ((operation t x).number ∷ []) []

-- is event e one of them?
abbrev pub needs : Trace → ℕ → ℕ → Bool
needs t e x = any_of (λ n. eqb n e) (needed t x)

-- is each of them posted?
abbrev pub unblocked : Trace → List ℕ → ℕ → Bool
unblocked t d x = all_of (λ e. posted t e d) (needed t x)

-- x may be next: its worker's earlier operations are done, and each event that it needs is posted
abbrev pub rule : Trace → Rule
rule t = record { size = size t; may = λ d x. turn (worker_of t) d x && unblocked t d x }

-- worker 0's operations in order, then worker 1's, and so on: the lowest-numbered worker first
abbrev pub order : Trace → List ℕ
order t = canonical (worker_of t) (size t) t.workers

-- the worker of each operation is one of the trace's, so that the order lists each operation; question 6 sees to it
pub record WorkersKnown (t : Trace) : Type 0 where
  pub known : (k : ℕ) → k < size t → worker_of t k < t.workers
