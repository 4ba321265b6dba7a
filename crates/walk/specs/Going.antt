-- The state of a walk by a set of ready workers.
-- Follows: document 01, "Runs": "the state of a walk is how many operations each worker has done, and the set of posted
-- events"; "Two runs": "the lowest-numbered worker whose next operation may run".
-- Differs: beside the state stand who is ready, how far each worker is in its list, and for each event who waits for
-- it.
-- A means.
use Rattle.std.specs.Prelude.{Bool, true, false, List, [], ◌∷◌, ◌++◌, ◌⊎◌, ◌≢◌, ◌≡◌, ℕ, ◌+◌, ◌-◌, ◌*◌, ◌<◌, ◌≤◌, length, get_or, set, take, drop}
use Rattle.runs.specs.Rule.{without}
use Rattle.runs.specs.Steps.{done}
use Rattle.runs.specs.Workers.{operations_of, LowestSteps}
use Rattle.trace.specs.Trace.{Trace, size, worker_of}
use Rattle.events.specs.Events.{is_posted}
use Rattle.masks.specs.Masks.{◌is_in◌, With}
use Rattle.model.specs.Rule.{needs, rule}
use Rattle.index.specs.Steps.{operation_at, Follows}
use Rattle.states.specs.States.{EndsRun, next_of}

-- ---- the state

-- why worker q, at operation k, does not go on: it is at its end, or at the operation left out, or stands among those
-- who wait for an event that it needs and that is not posted
pub data Stopped (t : Trace) (a : ℕ) (events waiting : List ℕ) (q k : ℕ) : Type 0 where
  at_end : k ≡ size t → Stopped t a events waiting q k
  at_left_out : k ≡ a → Stopped t a events waiting q k
  at_event : (e : ℕ) → e < 256 → needs t e k ≡ true → is_posted events e ≡ false → q is_in get_or waiting e 0
      → Stopped t a events waiting q k

-- q is ready or waits
abbrev pub Awake : List ℕ → ℕ → ℕ → Type 0
Awake waiting ready q = (q is_in ready) ⊎ ((e : ℕ) × (q is_in get_or waiting e 0))

-- the state of a walk without a, at the end of the run r: each worker but `out` has its list before it; only such
-- workers are ready or wait; a worker that is not ready has stopped
pub record Going (t : Trace) (a out : ℕ) (r list ends lasts nexts counts events waiting : List ℕ) (ready : ℕ) : Type 0
  where
    pub run : EndsRun t a r counts events
    pub follows : (q : ℕ) → q < 16 → q ≢ out
        → Follows t a list q (get_or nexts q 0) (get_or ends q 0) (get_or lasts q 0) (get_or counts q 0)
    pub awake : (q : ℕ) → Awake waiting ready q → (q < t.workers) × (q ≢ out)
    pub stands : (q : ℕ) → q < t.workers → (q is_in ready) ⊎ Stopped t a events waiting q (next_of t counts q)

-- ---- one worker's way along its list

-- worker q's operations from the one with i earlier ones up to the one with j
abbrev pub stretch : Trace → ℕ → ℕ → ℕ → List ℕ
stretch t q i j = take (j - i) (drop i (operations_of (worker_of t) q (size t)))

-- worker q comes to wait for event e
pub record Entered (q e : ℕ) (waiting waiting' : List ℕ) : Type 0 where
  pub mask : ℕ
  pub is : waiting' ≡ set waiting e mask
  pub one_more : With (get_or waiting e 0) q mask

-- whoever waits for an event that is not posted still does, or is freed; but for q nobody is freed who did not wait,
-- and nobody comes to wait
pub record Released (q : ℕ) (events waiting events' waiting' : List ℕ) (freed : ℕ) : Type 0 where
  pub room : length waiting' ≡ 256
  pub words : length events' ≡ 4
  pub keeps : (e p : ℕ) → e < 256 → is_posted events e ≡ false → p is_in get_or waiting e 0
      → ((is_posted events' e ≡ false) × (p is_in get_or waiting' e 0)) ⊎ (p is_in freed)
  pub freed_waited : (p : ℕ) → p is_in freed → (p ≡ q) ⊎ ((e : ℕ) × (p is_in get_or waiting e 0))
  pub waits_waited : (e p : ℕ) → p is_in get_or waiting' e 0 → (p ≡ q) ⊎ (p is_in get_or waiting e 0)

-- worker q, from the end of the run r, has gone on to entry `at` of its list, with c operations done
pub record Moved (t : Trace) (a : ℕ) (list : List ℕ) (q end last : ℕ) (r counts events' : List ℕ) (at c : ℕ) : Type 0
  where
    pub run : EndsRun t a (r ++ stretch t q (get_or counts q 0) c) (set counts q c) events'
    pub follows : Follows t a list q at end last c
    pub on : get_or counts q 0 ≤ c

-- the workers below q have stopped, and q lets them go first
pub record LowerStopped (t : Trace) (a q below : ℕ) (counts events waiting : List ℕ) : Type 0 where
  pub first : (p : ℕ) → p < q → p is_in below
  pub stopped : (p : ℕ) → p < q → Stopped t a events waiting p (next_of t counts p)

-- what was added is the lowest-numbered worker's at each step
abbrev pub LowestStretch : Trace → ℕ → ℕ → List ℕ → List ℕ → ℕ → Type 0
LowestStretch t a q r counts c =
    LowestSteps (worker_of t) (without (rule t) a) (done [] r) (stretch t q (get_or counts q 0) c)

-- worker q's way from entry `from` to entry `at`, with c operations done: so in whatever trace its list is right. It
-- lets the workers in `below` go first
pub record Along (list : List ℕ) (q below from end last : ℕ) (events waiting events' waiting' : List ℕ) (at c freed : ℕ)
    : Type 0 where
  pub from_on : from ≤ at
  pub up_to_end : at ≤ end
  pub none : at ≡ from → freed ≡ 0
  pub released : Released q events waiting events' waiting' freed
  pub moved : (t : Trace) (a : ℕ) (r counts : List ℕ) → EndsRun t a r counts events
      → Follows t a list q from end last (get_or counts q 0) → Moved t a list q end last r counts events' at c
  pub lowest : (t : Trace) (a : ℕ) (r counts : List ℕ) → EndsRun t a r counts events
      → Follows t a list q from end last (get_or counts q 0) → LowerStopped t a q below counts events waiting
      → LowestStretch t a q r counts c

-- and it stops there, or is itself among those freed
pub record Went (list : List ℕ) (q below from end last : ℕ) (events waiting events' waiting' : List ℕ) (at c freed : ℕ)
    : Type 0 where
  pub along : Along list q below from end last events waiting events' waiting' at c freed
  pub stopped : (t : Trace) (a : ℕ) → Follows t a list q at end last c
      → (q is_in freed) ⊎ Stopped t a events' waiting' q (operation_at t q c)

-- ---- turn by turn

-- what the code needs to be safe: each worker is inside its list, which is inside the array
pub record Sized (ends nexts : List ℕ) : Type 0 where
  pub each : (q : ℕ) → q < 16 → (get_or nexts q 0 ≤ get_or ends q 0) × (get_or ends q 0 ≤ 1024)

abbrev pub sum : List ℕ → ℕ
sum [] = 0
sum (x ∷ l) = x + sum l

-- what falls from turn to turn: the entries before the workers, then the workers that are ready
unfoldable pub left : List ℕ → ℕ → ℕ
left nexts ready = (16384 - sum nexts) * 65536 + ready

-- worker q's turn, in which it lets the workers below it go first if `orderly`
pub record Turned (list ends lasts : List ℕ) (orderly : Bool) (q : ℕ) (nexts counts events waiting : List ℕ) (ready : ℕ)
    (nexts' counts' events' waiting' : List ℕ) (ready' : ℕ) : Type 0 where
  pub sized : Sized ends nexts'
  pub falls : left nexts' ready' < left nexts ready
  pub others : (p : ℕ) → p ≢ q → get_or counts' p 0 ≡ get_or counts p 0
  pub going : (t : Trace) (a out : ℕ) (r : List ℕ)
      → Going t a out r list ends lasts nexts counts events waiting ready
      → Going t a out (r ++ stretch t q (get_or counts q 0) (get_or counts' q 0)) list ends lasts nexts' counts' events'
      waiting' ready' × (get_or counts q 0 ≤ get_or counts' q 0)
  pub lowest : orderly ≡ true → (t : Trace) (a out : ℕ) (r : List ℕ)
      → Going t a out r list ends lasts nexts counts events waiting ready
      → LowestStretch t a q r counts (get_or counts' q 0)

-- turns, one behind the other; where nobody is ready at the end, the walk is exhausted (`going-exhausted`)
pub record Walked (list ends lasts nexts counts events waiting : List ℕ) (ready : ℕ)
    (nexts' counts' events' waiting' : List ℕ) (ready' : ℕ) : Type 0 where
  pub sized : Sized ends nexts'
  pub going : (t : Trace) (a out : ℕ) (r : List ℕ)
      → Going t a out r list ends lasts nexts counts events waiting ready
      → (s : List ℕ) × Going t a out (r ++ s) list ends lasts nexts' counts' events' waiting' ready'
