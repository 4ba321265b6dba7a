-- What the functions that carry a worker's set on to an operation know.
-- Follows: document 01, "Order table and order".
-- Differs: nowhere. Means: no call's contract speaks of these.
use Rattle.std.specs.Prelude.{true, false, ◌≢◌, List, ◌≡◌, ℕ, ◌+◌, ◌*◌, ◌/◌, ◌%◌, ◌<◌, ◌≤◌, leb, ltb, get_or, set}
use Rattle.std.specs.Int.Bits.{bit_or}
use mir.Val.{bool_byte}
use Rattle.trace.specs.Trace.{Trace}
use Rattle.model.specs.Computed.{must_precede_in}
use Rattle.words.specs.Words.{With, Without}
use Rattle.unordered.specs.declared.Unordered.{Unordered}
use Rattle.unordered.specs.Kept.{IsOf, low_of, high_of, due_of, gone_of, Kept, Ranks}

-- ---- one operation

pub record TwoWorkers (w q : ℕ) : Type 0 where
  pub first : w < 16
  pub second : q < 16

-- operation k of worker q is stored into w's set, and `after` as the high end
pub record TakenOne (w q k after : ℕ) (kept kept' : Unordered) : Type 0 where
  pub word : ℕ
  pub holds : With (get_or kept.sets (32 * w + k / 32) 0) (k % 32) word
  pub stored : kept' ≡ record {
    next = kept.next;
    sets = set kept.sets (32 * w + k / 32) word;
    high = set kept.high (16 * w + q) after;
    low = kept.low;
    due = kept.due;
    gone = kept.gone;
  }

-- it is stored out of w's set, and `after` as the low end
pub record LetOne (w q k after : ℕ) (kept kept' : Unordered) : Type 0 where
  pub word : ℕ
  pub holds : Without (get_or kept.sets (32 * w + k / 32) 0) (k % 32) word
  pub stored : kept' ≡ record {
    next = kept.next;
    sets = set kept.sets (32 * w + k / 32) word;
    high = kept.high;
    low = set kept.low (16 * w + q) after;
    due = kept.due;
    gone = kept.gone;
  }

-- the ranks of both ends of q's operations in w's set are stored
pub record RanksKept (w q due gone : ℕ) (kept kept' : Unordered) : Type 0 where
  pub stored : kept' ≡ record {
    next = kept.next;
    sets = kept.sets;
    high = kept.high;
    low = kept.low;
    due = set kept.due (16 * w + q) due;
    gone = set kept.gone (16 * w + q) gone;
  }
  pub due_now : due_of kept' w q ≡ due
  pub gone_now : gone_of kept' w q ≡ gone

-- ---- all of them

-- a is certain before all operations of q from `high` on
pub record Ahead (t : Trace) (a q high : ℕ) : Type 0 where
  pub certain : {b : ℕ} → IsOf t q b → high ≤ b → must_precede_in t a b ≡ true

-- and none of those from `low` to `high` is certain before a
pub record Settled (t : Trace) (a q low high : ℕ) : Type 0 where
  pub ahead : Ahead t a q high
  pub behind : {b : ℕ} → IsOf t q b → low ≤ b → b < high → must_precede_in t b a ≡ false

-- the ends of the workers below q are those for operation a of worker w
pub record Turn (t : Trace) (a w q : ℕ) (kept : Unordered) : Type 0 where
  pub state : Kept t a kept
  pub settled : (r : ℕ) → r < q → Settled t a r (low_of kept w r) (high_of kept w r)

-- the ranks of all ends are kept but those of w and q
pub record OtherRanks (t : Trace) (table : List ℕ) (w q : ℕ) (kept : Unordered) : Type 0 where
  pub each : (v r : ℕ) → v < t.workers → r < t.workers → 16 * v + r ≢ 16 * w + q → Ranks t table kept v r

-- the ranks say that both ends of q's operations in w's set are right for a
pub record Still (table : List ℕ) (kept : Unordered) (p a w q : ℕ) : Type 0 where
  pub due : get_or table (a * p + q) 0 ≤ due_of kept w q
  pub gone : get_or table (a * p + w) 0 < gone_of kept w q

-- they say so of all ends of w's set
pub record AllStill (table : List ℕ) (kept : Unordered) (p a w : ℕ) : Type 0 where
  pub each : (q : ℕ) → q < p → Still table kept p a w q

-- whether they say that one of the two ends is not right
abbrev pub moves_bit : ℕ → ℕ → ℕ → ℕ → ℕ
moves_bit bound due own gone = bit_or (bool_byte (ltb due bound)) (bool_byte (leb gone own))
