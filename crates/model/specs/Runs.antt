-- Runs of a trace.
-- Follows: document 01, "Runs"; its sentences stand at the fields. A run is a list of operation numbers.
-- Differs: nowhere. "Stands before" is the theory's: both stand in the list, the one after the other.
use Rattle.std.specs.Prelude.{List, ◌++◌, ◌≡◌, ℕ, ◌<◌, T}
use Rattle.basics.specs.Membership.{◌∈◌, Different}
use Rattle.runs.specs.Run.{StandsBefore}
use Rattle.trace.specs.Trace.{Trace, size, operation, worker_of, is_post, is_wait}

-- y is one of x's "earlier operations of the same worker": a worker's records stand in its program order
pub record Earlier (t : Trace) (y x : ℕ) : Type 0 where
  pub same_worker : worker_of t y ≡ worker_of t x
  pub lower : y < x

-- operation x is a Wait
abbrev pub Waits : Trace → ℕ → Type 0
Waits t x = T (is_wait (operation t x).kind)

-- y is a Post of the event that x names
pub record PostFor (t : Trace) (x y : ℕ) : Type 0 where
  pub post : T (is_post (operation t y).kind)
  pub event : (operation t y).number ≡ (operation t x).number

-- a Post of the event that x names stands before x
pub record PostBefore (t : Trace) (x : ℕ) (r : List ℕ) : Type 0 where
  pub which : ℕ
  pub post_for : PostFor t x which
  pub before : StandsBefore which x r

-- document 01: "A run is a list of different operations in which each one's earlier operations of the same worker stand
-- before it, and each Wait has a Post of its event before it."
pub record RunOf (t : Trace) (r : List ℕ) : Type 0 where
  pub operations : {x : ℕ} → x ∈ r → x < size t
  pub different : Different r
  pub earlier_before : {x y : ℕ} → x ∈ r → Earlier t y x → StandsBefore y x r
  pub post_before : {x : ℕ} → x ∈ r → Waits t x → PostBefore t x r

-- document 01: "A run is complete when it holds all n operations."
pub record CompleteRunOf (t : Trace) (r : List ℕ) : Type 0 where
  pub is_a_run : RunOf t r
  pub holds : (x : ℕ) → x < size t → x ∈ r

-- the trace has no complete run
abbrev pub NoCompleteRun : Trace → Type 0
NoCompleteRun t = (r : List ℕ) → CompleteRunOf t r → ⊥

-- document 01: a run r "is carried on by adding operations at its end so that the longer list is a run too": s is
-- added, and each longer list on the way is a run
pub record CarriedOn (t : Trace) (r s : List ℕ) : Type 0 where
  pub longer : (u v : List ℕ) → s ≡ u ++ v → RunOf t (r ++ u)
