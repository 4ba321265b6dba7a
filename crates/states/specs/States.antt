-- When the state of a walk, its done counts and its event words, shows the operations that are done.
-- Follows: document 01, "Runs": "the state of a walk is how many operations each worker has done, and the set of posted
-- events".
-- Differs: nowhere. A means: no contract of a call speaks of it.
use Rattle.std.specs.Prelude.{true, false, ◌||◌, cond, List, [], ◌≡◌, ℕ, zero, suc, ltb, length, get_or}
use Rattle.basics.specs.Membership.{◌∉◌}
use Rattle.runs.specs.Maximal.{MaximalWithout}
use Rattle.runs.specs.Run.{Run}
use Rattle.runs.specs.Steps.{done}
use Rattle.runs.specs.Workers.{count}
use Rattle.trace.specs.Trace.{Trace, size, worker_of}
use Rattle.events.specs.Events.{is_posted}
use Rattle.model.specs.Rule.{posts, needs, posted, rule}
use Rattle.index.specs.Steps.{operation_at}

-- the counts are those of the operations done, and the events set are those that they post
pub record Shows (t : Trace) (d counts events : List ℕ) : Type 0 where
  pub counters : length counts ≡ 16
  pub words : length events ≡ 4
  pub counted : (q : ℕ) → get_or counts q 0 ≡ count (worker_of t) q d
  pub set : (e : ℕ) → is_posted events e ≡ posted t e d

-- the state is the end of the run r, which lacks a
pub record EndsRun (t : Trace) (a : ℕ) (r counts events : List ℕ) : Type 0 where
  pub is_a_run : Run (rule t) r
  pub lacks : a ∉ r
  pub shows : Shows t (done [] r) counts events

-- the state is the end of r, a maximal valid execution without a
pub record Exhausted (t : Trace) (a : ℕ) (r counts events : List ℕ) : Type 0 where
  pub maximal : MaximalWithout (rule t) a r
  pub shows : Shows t (done [] r) counts events

-- worker q's next operation; the size of the trace where it has none left
abbrev pub next_of : Trace → List ℕ → ℕ → ℕ
next_of t counts q = operation_at t q (get_or counts q 0)

-- each event that operation k needs is posted
pub record Free (t : Trace) (events : List ℕ) (k : ℕ) : Type 0 where
  pub each : (e : ℕ) → needs t e k ≡ true → is_posted events e ≡ true

-- why k, where a is left out, cannot be added
pub data Blocked (t : Trace) (a : ℕ) (events : List ℕ) (k : ℕ) : Type 0 where
  no_more : k ≡ size t → Blocked t a events k
  left_out : k ≡ a → Blocked t a events k
  waits : (e : ℕ) → needs t e k ≡ true → is_posted events e ≡ false → Blocked t a events k

-- the events when operation k has run too
pub record Posted (t : Trace) (k : ℕ) (events events' : List ℕ) : Type 0 where
  pub words : length events' ≡ 4
  pub each : (e : ℕ) → is_posted events' e ≡ (posts t e k || is_posted events e)

-- the lowest of the next operations of the workers below q; the size where they have none left
unfoldable pub lowest_left : Trace → List ℕ → ℕ → ℕ
lowest_left t counts zero = size t
lowest_left t counts (suc q) =
    let k = next_of t counts q in
    let least = lowest_left t counts q in
    cond (ltb k least) k least
