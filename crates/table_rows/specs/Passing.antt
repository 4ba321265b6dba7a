-- The steps of a worker along which the walk is kept, passed over while they free nobody.
-- Follows: document 01, "Order table and order". Means: the call's contract does not speak of it.
use Rattle.std.specs.Prelude.{List, ◌≡◌, ℕ, ◌<◌, ◌≤◌, length, get_or, set}
use Rattle.basics.specs.Membership.{up_to}
use Rattle.runs.specs.Workers.{count}
use Rattle.trace.specs.Premises.{Fits}
use Rattle.trace.specs.Trace.{Trace, size, worker_of}
use Rattle.model.specs.Runs.{CompleteRunOf}
use Rattle.index.specs.Steps.{operation_at, reached, Follows}
use Rattle.walk.specs.Going.{Going}
use Rattle.table_rows.specs.Filling.{RowsOf}

-- worker q has done i operations, the next is left out, its list goes on from entry `own`, and nobody is ready
pub record Own (t : Trace) (list ends lasts nexts counts : List ℕ) (q own i : ℕ)
    (events waiting : List ℕ) : Type 0 where
  pub fits : Fits t
  pub run : List ℕ
  pub complete : CompleteRunOf t run
  pub all : get_or lasts q 0 ≡ count (worker_of t) q (up_to (size t))
  pub left : i < get_or lasts q 0
  pub follows : Follows t (size t) list q own (get_or ends q 0) (get_or lasts q 0) i
  pub so_far : List ℕ
  pub going : Going t (operation_at t q i) q so_far list ends lasts nexts (set counts q i) events waiting 0

-- its steps before entry `at` have freed nobody: the rows up to there differ in the own count alone
pub record OwnTo (t : Trace) (list ends lasts nexts counts : List ℕ) (q i at : ℕ)
    (events waiting : List ℕ) : Type 0 where
  pub upto : i ≤ reached list (get_or ends q 0) (get_or lasts q 0) at
  pub most : reached list (get_or ends q 0) (get_or lasts q 0) at ≤ get_or lasts q 0
  pub follows : Follows t (size t) list q at (get_or ends q 0) (get_or lasts q 0)
      (reached list (get_or ends q 0) (get_or lasts q 0) at)
  pub rows : RowsOf t q i (reached list (get_or ends q 0) (get_or lasts q 0) at) counts
  pub going : operation_at t q (reached list (get_or ends q 0) (get_or lasts q 0) at) < size t → (r : List ℕ)
      × Going t (operation_at t q (reached list (get_or ends q 0) (get_or lasts q 0) at)) q r list ends lasts nexts
      (set counts q (reached list (get_or ends q 0) (get_or lasts q 0) at)) events waiting 0

-- with the step that frees somebody, or with the last operation, `to` are done; then the list goes on from entry `at`
pub record OwnPassed (t : Trace) (list ends lasts nexts counts : List ℕ) (q i at to : ℕ) (events waiting : List ℕ)
    (freed : ℕ) : Type 0 where
  pub up : i < to
  pub most : to ≤ get_or lasts q 0
  pub rows : RowsOf t q i to counts
  pub follows : to < get_or lasts q 0 → Follows t (size t) list q at (get_or ends q 0) (get_or lasts q 0) to
  pub going : operation_at t q to < size t → (r : List ℕ)
      × Going t (operation_at t q to) q r list ends lasts nexts (set counts q to) events waiting freed

-- `OwnPassed`, in whatever trace
pub record Passes (list : List ℕ) (q own end last : ℕ) (events waiting events' waiting' : List ℕ) (at to freed : ℕ)
    : Type 0 where
  pub inside : at ≤ end
  pub passed : (t : Trace) (ends lasts nexts counts : List ℕ) (i : ℕ) → get_or ends q 0 ≡ end → get_or lasts q 0 ≡ last
      → Own t list ends lasts nexts counts q own i events waiting
      → OwnPassed t list ends lasts nexts counts q i at to events' waiting' freed

-- `OwnTo`, in whatever trace
pub record Passing (list : List ℕ) (q own end last : ℕ) (events waiting events' waiting' : List ℕ)
    (at : ℕ) : Type 0 where
  pub inside : at ≤ end
  pub passing : (t : Trace) (ends lasts nexts counts : List ℕ) (i : ℕ) → get_or ends q 0 ≡ end → get_or lasts q 0 ≡ last
      → Own t list ends lasts nexts counts q own i events waiting
      → OwnTo t list ends lasts nexts counts q i at events' waiting'

-- the same two with the lengths of the arrays
pub record PassesOwn (list : List ℕ) (q own end last : ℕ) (events waiting events' waiting' : List ℕ) (at to freed : ℕ)
    : Type 0 where
  pub inside : at ≤ end
  pub words : length events' ≡ 4
  pub room : length waiting' ≡ 256
  pub passed : (t : Trace) (ends lasts nexts counts : List ℕ) (i : ℕ) → get_or ends q 0 ≡ end → get_or lasts q 0 ≡ last
      → Own t list ends lasts nexts counts q own i events waiting
      → OwnPassed t list ends lasts nexts counts q i at to events' waiting' freed

pub record PassingOwn (list : List ℕ) (q own end last : ℕ) (events waiting events' waiting' : List ℕ)
    (at : ℕ) : Type 0 where
  pub inside : at ≤ end
  pub words : length events' ≡ 4
  pub room : length waiting' ≡ 256
  pub passing : (t : Trace) (ends lasts nexts counts : List ℕ) (i : ℕ) → get_or ends q 0 ≡ end → get_or lasts q 0 ≡ last
      → Own t list ends lasts nexts counts q own i events waiting
      → OwnTo t list ends lasts nexts counts q i at events' waiting'
