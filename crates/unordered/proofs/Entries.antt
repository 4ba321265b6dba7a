-- The entries of the table that a turn reads. In order: ranks; a's place; what two entries tell.
use mathlib.Core.Bool.{true, false}
use mathlib.Core.List.{List}
use mathlib.Core.Logic.{inl, inr, ◌≢◌}
use mathlib.Core.Path.{◌≡◌, refl, sym, ap, ◌∙◌}
use native.Mathlib.Omega.{arith}
use Prim.Native.Nat.{ℕ, ◌+◌, ◌*◌, ◌<◌, ◌≤◌}
use lib.ListN.{get_or}
use borrow.Author.Tests.{lt-ltb, le-ltb}
use Rattle.basics.proofs.Booleans.{less?}
use Rattle.trace.specs.Premises.{HoldsTrace}
use Rattle.trace.specs.Reading.{trace_of}
use Rattle.trace.specs.Trace.{Trace, size, worker_of}
use Rattle.model.specs.Computed.{must_precede_in}
use Rattle.table_entries.specs.Entries.{HoldsTable, PairInTable}
use Rattle.table_entries.proofs.TableEntries.{pair-back}
use Rattle.unordered.specs.declared.Unordered.{Unordered}
use Rattle.unordered.specs.Kept.{IsOf, NextAt, Kept, rank_at}
use Rattle.unordered.specs.Turns.{TwoWorkers}
use Rattle.unordered.proofs.Ends.{of-few}
use Rattle.unordered.proofs.Order.{Given, table-given, entries-certain, entries-uncertain}

-- ---- ranks

module _ (table : List ℕ) (p end k q : ℕ) where
  pub rank-inside : k < end → rank_at table p end k q ≡ get_or table (k * p + q) 0
  unfolding rank_at
  rank-inside l = rw (lt-ltb k end l)

  pub rank-past : end ≤ k → rank_at table p end k q ≡ 65536
  unfolding rank_at
  rank-past l = rw (le-ltb k end l)

  -- a rank below 65536 is that of a row before the end
  pub rank_below : rank_at table p end k q < 65536 → k < end
  rank_below l = elim (less? k end) [ inl i ↦ i | inr i ↦ absurd (omega (arith, rank-past i)) ]

-- an accepted file with its table, and operation a of worker w, with the count that the code has read
pub record Place (bytes table : List ℕ) (n a w : ℕ) : Type 0 where
  pub holds : HoldsTable bytes table
  pub count : n ≡ size (trace_of bytes)
  pub turn : IsOf (trace_of bytes) w a

-- what is known of the next operations
pub place-next : {t : Trace} {a : ℕ} {kept : Unordered} → Kept t a kept → {q k : ℕ} → IsOf t q k
    → NextAt t q (k + 1) (get_or kept.next k 0)
place-next s {k = k} o = rw o.worker at (s.nexts.each k o.below)

-- a's place
pub placed : {bytes table : List ℕ} {p n a w : ℕ} → HoldsTable bytes table → HoldsTrace bytes p n
    → IsOf (trace_of bytes) w a → Place bytes table n a w
placed h t turn = record { holds = h; count = sym t.count; turn = turn }

module _ {bytes table : List ℕ} {n a w : ℕ} (l : Place bytes table n a w) where
  pub place-given : Given (trace_of bytes)
  place-given = table-given l.holds

  -- the entry of a's own worker
  pub own_row : (a < size (trace_of bytes)) × (w < (trace_of bytes).workers)
  own_row = (l.turn.below, of-few place-given l.turn)

  -- ---- what two entries tell

  module _ {q k : ℕ} (o : IsOf (trace_of bytes) q k) (d : w ≢ q) where
    pair : PairInTable bytes table (trace_of bytes).workers a k
    pair =
        record {
          holds = l.holds;
          workers = refl;
          first = l.turn.below;
          second = o.below;
          differ = λ e. d (sym l.turn.worker ∙ ap (worker_of (trace_of bytes)) e ∙ o.worker);
        }

    pub after-certain :
        get_or table (a * (trace_of bytes).workers + q) 0 ≤ get_or table (k * (trace_of bytes).workers + q) 0
        → must_precede_in (trace_of bytes) a k ≡ true
    after-certain = entries-certain pair (sym o.worker)

    pub after-uncertain :
        get_or table (k * (trace_of bytes).workers + q) 0 < get_or table (a * (trace_of bytes).workers + q) 0
        → must_precede_in (trace_of bytes) a k ≡ false
    after-uncertain = entries-uncertain pair (sym o.worker)

    pub before-certain :
        get_or table (k * (trace_of bytes).workers + w) 0 ≤ get_or table (a * (trace_of bytes).workers + w) 0
        → must_precede_in (trace_of bytes) k a ≡ true
    before-certain = entries-certain (pair-back pair) (sym l.turn.worker)

    pub before-uncertain :
        get_or table (a * (trace_of bytes).workers + w) 0 < get_or table (k * (trace_of bytes).workers + w) 0
        → must_precede_in (trace_of bytes) k a ≡ false
    before-uncertain = entries-uncertain (pair-back pair) (sym l.turn.worker)

  pub two-workers : {q : ℕ} → q < (trace_of bytes).workers → TwoWorkers w q
  two-workers few =
      let g = place-given in
      record { first = omega (arith, of-few g l.turn, g.most); second = omega (arith, g.most) }
