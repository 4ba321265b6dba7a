-- What is known before the first operation: the trace, read from its end, and where the ends start.
-- Follows: document 01, "Trace file": operations are numbered in file order, and a worker's stand in its program order.
-- Differs: nowhere. Means: no call's contract speaks of these.
use Rattle.std.specs.Prelude.{cond, List, ◌≡◌, ℕ, ◌+◌, ◌/◌, ◌%◌, ◌<◌, ◌≤◌, eqb, length, get_or}
use Rattle.trace.specs.Trace.{Trace, size, worker_of}
use Rattle.unordered.specs.Kept.{NextAt}

-- from k on, each worker's first operation, and of each operation the next one of its worker
pub record ReadFrom (t : Trace) (k : ℕ) (next firsts : List ℕ) : Type 0 where
  pub below : k ≤ size t
  pub firsts_long : length firsts ≡ 16
  pub first : (q : ℕ) → q < 16 → NextAt t q k (get_or firsts q 0)
  pub nexts : (j : ℕ) → k ≤ j → j < size t → NextAt t (worker_of t j) (j + 1) (get_or next j 0)

-- both ends of pair i: q's first operation, and 1024 for a worker's own
unfoldable pub first_end : List ℕ → ℕ → ℕ
first_end firsts i = cond (eqb (i / 16) (i % 16)) 1024 (get_or firsts (i % 16) 0)

-- those of the pairs below i are known
pub record EndsSet (firsts : List ℕ) (i : ℕ) (ends : List ℕ) : Type 0 where
  pub few : i ≤ 256
  pub long : length ends ≡ 256
  pub each : (j : ℕ) → j < i → get_or ends j 0 ≡ first_end firsts j
