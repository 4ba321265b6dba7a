-- Where a walk starts: each worker at the start of its list, all of it before it, or up to an operation that is left
-- out.
-- Follows: nothing in the documents. A means.
use Rattle.std.specs.Prelude.{List, ◌≡◌, ℕ, ◌+◌, ◌-◌, ◌<◌, ◌≤◌, length, get_or, set, replicate}
use Rattle.runs.specs.Workers.{earlier}
use Rattle.trace.specs.Premises.{Fits}
use Rattle.trace.specs.Trace.{Trace, size, worker_of}
use Rattle.index.specs.Steps.{ahead, Follows, Listed}
use Rattle.states.specs.States.{Exhausted}

-- each of the sixteen lists lies inside the array, and the parts are in order
pub record Opens (starts ends : List ℕ) : Type 0 where
  pub each : (q : ℕ) → q < 16
      → (get_or starts q 0 ≤ get_or ends q 0) × (get_or ends q 0 ≤ 1024) × (get_or starts q 0 ≤ get_or starts (q + 1) 0)

-- the workers below q stand at their lists' starts, and have so many operations
pub record Begun (starts nexts lasts : List ℕ) (q : ℕ) : Type 0 where
  pub places : length nexts ≡ 16
  pub counts : length lasts ≡ 16
  pub each : (r : ℕ) → r < q
      → (get_or nexts r 0 ≡ get_or starts r 0) × (get_or lasts r 0 ≡ get_or starts (r + 1) 0 - get_or starts r 0)

-- nothing is done, no event is posted, and nobody waits
pub record Unstarted (counts events waiting : List ℕ) : Type 0 where
  pub undone : counts ≡ replicate 16 0
  pub unposted : events ≡ replicate 4 0
  pub unawaited : waiting ≡ replicate 256 0

-- the first entry from `from` on, up to `end`, that does not stand before the operation with `prior` earlier ones
pub record Entry (list : List ℕ) (from end prior s : ℕ) : Type 0 where
  pub from_on : from ≤ s
  pub up_to_end : s ≤ end
  pub before : (j : ℕ) → from ≤ j → j < s → ahead (get_or list j 0) < prior
  pub past : s < end → prior ≤ ahead (get_or list s 0)

-- each worker's list, without a
pub record Courses (t : Trace) (a : ℕ) (starts list ends lasts : List ℕ) : Type 0 where
  pub each : (q : ℕ) → q < 16
      → Follows t a list q (get_or starts q 0) (get_or ends q 0) (get_or lasts q 0) 0

-- each worker stands at its list's start; the lists end at `ends`, but for worker q's, which ends at entry `at`, before
-- its operation with `prior` earlier ones
pub record BegunWithout (starts list ends : List ℕ) (q prior : ℕ) (nexts stops lasts : List ℕ) : Type 0 where
  pub low : q < 16
  pub opens : Opens starts ends
  pub room : length ends ≡ 16
  pub whole : List ℕ
  pub begun : Begun starts nexts whole 16
  pub at : ℕ
  pub entry : Entry list (get_or starts q 0) (get_or ends q 0) prior at
  pub ends_cut : stops ≡ set ends q at
  pub counts_cut : lasts ≡ set whole q prior

-- a is the operation of worker q with this many earlier ones, in a trace of p workers whose lists these are
pub record LeftOut (t : Trace) (p : ℕ) (starts list ends : List ℕ) (q prior a : ℕ) : Type 0 where
  pub fits : Fits t
  pub workers : t.workers ≡ p
  pub listed : Listed t starts list ends
  pub below : a < size t
  pub own : worker_of t a ≡ q
  pub ahead : earlier (worker_of t) a ≡ prior

-- these counts are those at the end of a walk without a
pub record Ended (t : Trace) (a : ℕ) (counts : List ℕ) : Type 0 where
  pub run : List ℕ
  pub events : List ℕ
  pub exhausted : Exhausted t a run counts events
