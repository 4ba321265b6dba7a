-- The operations that are unordered with a worker's operation, as sets of bits that are carried on along the worker.
-- Follows: document 01, "Order table and order".
-- Differs: nowhere. Means: no call's contract speaks of these. Of worker q, the operations that are unordered with an
-- operation of worker w are those from a low end to a high one, and both ends only move up along w. The struct is that
-- of src/lib.rt.
use Rattle.std.specs.Prelude.{Bool, true, false, cond, not, ◌&&◌, List, ◌≢◌, ◌≡◌, ℕ, ◌+◌, ◌*◌, ◌/◌, ◌%◌, ◌<◌, ◌≤◌, eqb, leb, ltb, get_or}
use Rattle.trace.specs.Trace.{Trace, size, worker_of}
use Rattle.model.specs.Computed.{must_precede_in, unordered_in}
use Rattle.words.specs.Words.{is_in}
use Rattle.unordered.specs.declared.Unordered.{Unordered}

-- b is an operation of worker q
pub record IsOf (t : Trace) (q b : ℕ) : Type 0 where
  pub below : b < size t
  pub worker : worker_of t b ≡ q

-- ---- a worker's next operation

-- j is an operation of worker q, or 1024
pub record EndAt (t : Trace) (q j : ℕ) : Type 0 where
  pub own : j < size t → worker_of t j ≡ q
  pub end : size t ≤ j → j ≡ 1024

-- j is the lowest operation of worker q from `from` on; 1024 where there is none
pub record NextAt (t : Trace) (q from j : ℕ) : Type 0 where
  pub place : EndAt t q j
  pub ahead : from ≤ j
  pub least : {b : ℕ} → IsOf t q b → from ≤ b → j ≤ b

-- the array holds for each operation the next one of its worker
pub record HoldsNext (t : Trace) (next : List ℕ) : Type 0 where
  pub each : (k : ℕ) → k < size t → NextAt t (worker_of t k) (k + 1) (get_or next k 0)

-- ---- the sets and their ends

-- is b in the set of worker w?
unfoldable pub held : Unordered → ℕ → ℕ → Bool
held kept w b = is_in (get_or kept.sets (32 * w + b / 32) 0) (b % 32)

-- the lowest operation of worker q that is not yet taken into w's set, and the lowest that is not yet let out
abbrev pub high_of : Unordered → ℕ → ℕ → ℕ
high_of kept w q = get_or kept.high (16 * w + q) 0

abbrev pub low_of : Unordered → ℕ → ℕ → ℕ
low_of kept w q = get_or kept.low (16 * w + q) 0

-- entry q of row k; a number above all entries where k is not below `end`
unfoldable pub rank_at : List ℕ → ℕ → ℕ → ℕ → ℕ → ℕ
rank_at table p end k q = cond (ltb k end) (get_or table (k * p + q) 0) 65536

-- the rank of the high end in its own worker, and that of the low end in w
abbrev pub due_of : Unordered → ℕ → ℕ → ℕ
due_of kept w q = get_or kept.due (16 * w + q) 0

abbrev pub gone_of : Unordered → ℕ → ℕ → ℕ
gone_of kept w q = get_or kept.gone (16 * w + q) 0

-- is b from `low` on, and below `high`?
abbrev pub between : ℕ → ℕ → ℕ → Bool
between low high b = leb low b && ltb b high

-- both ends are right for the operations of w from a on: of q's operations those below `low` are certain before each,
-- and each is certain before none of those below `high`. A worker's own operations stay out of its set.
pub record Ends (t : Trace) (a w q low high : ℕ) : Type 0 where
  pub low_place : EndAt t q low
  pub high_place : EndAt t q high
  pub ascend : low ≤ high
  pub own : w ≡ q → low ≡ 1024
  pub before : {b k : ℕ} → w ≢ q → IsOf t q b → b < low → IsOf t w k → a ≤ k → must_precede_in t b k ≡ true
  pub not_after : {b k : ℕ} → w ≢ q → IsOf t q b → b < high → IsOf t w k → a ≤ k → must_precede_in t k b ≡ false

-- so are those of all workers, each set holds what is between them, and the next operations are known
pub record Kept (t : Trace) (a : ℕ) (kept : Unordered) : Type 0 where
  pub nexts : HoldsNext t kept.next
  pub ends : (w q : ℕ) → w < t.workers → q < t.workers → Ends t a w q (low_of kept w q) (high_of kept w q)
  pub sets : {q b : ℕ} (w : ℕ) → w < t.workers → IsOf t q b
      → held kept w b ≡ between (low_of kept w q) (high_of kept w q) b
  pub rest : (w b : ℕ) → w < t.workers → size t ≤ b → b < 1024 → held kept w b ≡ false

-- the ranks of two ends are kept, or something below them
pub record Ranks (t : Trace) (table : List ℕ) (kept : Unordered) (w q : ℕ) : Type 0 where
  pub due : due_of kept w q ≤ rank_at table t.workers (size t) (high_of kept w q) q
  pub gone : gone_of kept w q ≤ rank_at table t.workers (high_of kept w q) (low_of kept w q) w

-- so are those of all ends
pub record AllRanks (t : Trace) (table : List ℕ) (kept : Unordered) : Type 0 where
  pub each : (w q : ℕ) → w < t.workers → q < t.workers → Ranks t table kept w q

-- what is carried on: the ends and sets for the operations from a on, and the ranks
pub record Carried (t : Trace) (table : List ℕ) (a : ℕ) (kept : Unordered) : Type 0 where
  pub state : Kept t a kept
  pub ranks : AllRanks t table kept

-- the set of a's worker holds the other operations that are unordered with a
pub record Now (t : Trace) (a : ℕ) (kept : Unordered) : Type 0 where
  pub each : (b : ℕ) → b < 1024
      → held kept (worker_of t a) b ≡ ltb b (size t) && (not (eqb a b) && unordered_in t a b)
