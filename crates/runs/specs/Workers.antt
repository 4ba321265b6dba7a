-- Operations by worker: program order, counts, the canonical order, and the lowest-numbered worker first.
-- Follows: document 01, "Trace file", "Order table and order", "Two runs", "Tidy file".
-- Differs: which worker an operation has is any function of its number; report 1084 says process for worker. One
-- worker's numbers ascend in its program order, since operations are numbered in file order.
-- `InTurn`, `Counted`, `Ascending` and `LowestSteps` are means, joined to the rest by proofs/ProgramOrder,
-- proofs/Counts, proofs/CanonicalOrder and proofs/LowestWorker.
use Rattle.std.specs.Prelude.{◌≡◌, Bool, not, ◌||◌, cond, List, [], ◌∷◌, ◌++◌, ℕ, zero, suc, ◌+◌, ◌<◌, ◌≤◌, T, eqb, length}
use Rattle.basics.specs.Membership.{◌∈◌, up_to, count_if, mem, all_of}
use Rattle.runs.specs.Rule.{Rule, without}
use Rattle.runs.specs.Steps.{Addable, Closed, done}

module _ (worker : ℕ → ℕ) where
  -- are x's worker's earlier operations done? (the part of every rule that keeps program order)
  abbrev pub turn : List ℕ → ℕ → Bool
  turn d x = all_of (λ y. not (eqb (worker y) (worker x)) || mem y d) (up_to x)

  -- how many of worker q's operations stand in the list
  abbrev pub count : ℕ → List ℕ → ℕ
  count q l = count_if (λ x. eqb (worker x) q) l

  -- how many of its worker's operations come before x; document 01's "rank" of x is one more
  abbrev pub earlier : ℕ → ℕ
  earlier x = count (worker x) (up_to x)

  -- worker q's operations below n, in program order
  abbrev pub operations_of : ℕ → ℕ → List ℕ
  operations_of q zero = []
  operations_of q (suc n) = operations_of q n ++ cond (eqb (worker n) q) (n ∷ []) []

  -- document 01, "Tidy file": worker 0's operations in order, then worker 1's, and so on; n operations, p workers
  abbrev pub canonical : ℕ → ℕ → List ℕ
  canonical n zero = []
  canonical n (suc p) = canonical n p ++ operations_of p n

  -- x's place there: behind the operations of lower-numbered workers, and its worker's earlier ones
  abbrev pub place : ℕ → ℕ → ℕ
  place n x = length (canonical n (worker x)) + earlier x

  -- x comes before y: of a lower-numbered worker, or earlier of the same
  pub data Ahead (x y : ℕ) : Type 0 where
    lower_worker : worker x < worker y → Ahead x y
    same_worker : worker x ≡ worker y → x < y → Ahead x y

  -- each operation of the list comes before those that stand after it
  pub data Ascending : List ℕ → Type 0 where
    up_nil : Ascending []
    up_cons : {x : ℕ} {l : List ℕ} → ((y : ℕ) → y ∈ l → Ahead x y) → Ascending l → Ascending (x ∷ l)

  -- the operations done are the first ones of each worker: its count tells which
  pub record Counted (d : List ℕ) : Type 0 where
    pub from_in : {x : ℕ} → x ∈ d → earlier x < count (worker x) d
    pub to_in : {x : ℕ} → earlier x < count (worker x) d → x ∈ d

-- an operation may be next only when its worker's earlier ones are done
pub record InTurn (R : Rule) (worker : ℕ → ℕ) : Type 0 where
  pub earlier_done : {d : List ℕ} {x y : ℕ} → x < R.size → T (R.may d x) → worker y ≡ worker x → y < x → y ∈ d

-- x can be added when d is done, and no operation of a lower-numbered worker can
pub record LowestAddable (worker : ℕ → ℕ) (R : Rule) (d : List ℕ) (x : ℕ) : Type 0 where
  pub can : Addable R d x
  pub lowest : {y : ℕ} → Addable R d y → worker x ≤ worker y

-- document 01, "Two runs": from d done, "at each step the lowest-numbered worker whose next operation may run"
-- takes it, until none can
pub data LowestFirst (worker : ℕ → ℕ) (R : Rule) : List ℕ → List ℕ → Type 0 where
  none_can : {d : List ℕ} → Closed R d → LowestFirst worker R d []
  moves : {d s : List ℕ} {x : ℕ} → LowestAddable worker R d x → LowestFirst worker R (x ∷ d) s
      → LowestFirst worker R d (x ∷ s)

-- the same, but it may end while some can still move
pub data LowestSteps (worker : ℕ → ℕ) (R : Rule) : List ℕ → List ℕ → Type 0 where
  no_step : {d : List ℕ} → LowestSteps worker R d []
  one_step : {d s : List ℕ} {x : ℕ} → LowestAddable worker R d x → LowestSteps worker R (x ∷ d) s
      → LowestSteps worker R d (x ∷ s)

-- document 01, "Two runs", the run in which b is held back: the lowest-numbered worker first, other than b; "when
-- none can, b is allowed from there on and the same rule goes on to the end"
pub record HoldsBack (worker : ℕ → ℕ) (R : Rule) (b : ℕ) (r : List ℕ) : Type 0 where
  pub without_b : List ℕ
  pub on : List ℕ
  pub parts : r ≡ without_b ++ on
  pub other_than_b : LowestFirst worker (without R b) [] without_b
  pub to_the_end : LowestFirst worker R (done [] without_b) on
