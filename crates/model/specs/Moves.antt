-- Runs in which the lowest-numbered worker goes first, and the run that holds an operation back.
-- Follows: document 01, "Two runs": worker by worker, and by each worker's next operation.
-- Differs: what is excluded is a predicate of operations: b alone, then nothing.
use Rattle.std.specs.Prelude.{List, [], ◌∷◌, ◌++◌, ◌≡◌, ℕ, ◌<◌}
use Rattle.basics.specs.Membership.{◌∈◌, ◌∉◌}
use Rattle.trace.specs.Trace.{Trace, size, worker_of}
use Rattle.model.specs.Runs.{Earlier, Waits, PostFor}

-- x is worker q's next operation when d is done: its first that is not done
pub record NextOperation (t : Trace) (d : List ℕ) (q x : ℕ) : Type 0 where
  pub operation : x < size t
  pub own : worker_of t x ≡ q
  pub new : x ∉ d
  pub earlier_done : {y : ℕ} → Earlier t y x → y ∈ d

-- it may run: a Wait has a Post of its event done; "Post, Read and Write may always proceed in turn"
pub record MayRun (t : Trace) (d : List ℕ) (x : ℕ) : Type 0 where
  pub posted : Waits t x → (y : ℕ) × (y ∈ d) × PostFor t x y

-- worker q's next operation is x, which is not excluded and may run
pub record CanMove (t : Trace) (excluded : ℕ → Type 0) (d : List ℕ) (q x : ℕ) : Type 0 where
  pub next : NextOperation t d q x
  pub may_run : MayRun t d x
  pub allowed : excluded x → ⊥

-- from d done, which stands in the order in which it was done: "at each step the lowest-numbered worker whose next
-- operation may run, other than" one excluded, "takes it", until none can
pub data LowestFirstRun (t : Trace) (excluded : ℕ → Type 0) : List ℕ → List ℕ → Type 0 where
  none_can : {d : List ℕ} → ((q x : ℕ) → CanMove t excluded d q x → ⊥) → LowestFirstRun t excluded d []
  takes : {d s : List ℕ} (q x : ℕ) → CanMove t excluded d q x
      → ((lower y : ℕ) → lower < q → CanMove t excluded d lower y → ⊥)
      → LowestFirstRun t excluded (d ++ x ∷ []) s → LowestFirstRun t excluded d (x ∷ s)

-- what is excluded: b alone; nothing
abbrev pub Only : ℕ → ℕ → Type 0
Only b x = x ≡ b

abbrev pub Nothing : ℕ → Type 0
Nothing x = ⊥

-- document 01, one of the two runs: the lowest-numbered worker first, "other than b"; "when none can, b is allowed from
-- there on and the same rule goes on to the end"
pub record HeldBackRun (t : Trace) (b : ℕ) (r : List ℕ) : Type 0 where
  pub without_b : List ℕ
  pub on : List ℕ
  pub parts : r ≡ without_b ++ on
  pub other_than_b : LowestFirstRun t (Only b) [] without_b
  pub to_the_end : LowestFirstRun t Nothing without_b on
