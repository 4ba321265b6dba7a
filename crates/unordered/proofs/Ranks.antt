-- The ranks that are kept beside the ends. In order: the others, where one pair of ends moved; those of a pair stored.
use mathlib.Core.List.{List}
use mathlib.Core.Logic.{inl, inr}
use mathlib.Core.Path.{◌≡◌}
use native.Mathlib.Omega.{arith}
use Prim.Native.Nat.{ℕ, ◌+◌, ◌*◌, ◌<◌, ◌≤◌}
use lib.ListN.{set}
use lib.Seq.{get_or-set_other}
use Rattle.basics.proofs.Booleans.{equal?}
use Rattle.trace.specs.Reading.{trace_of}
use Rattle.trace.specs.Trace.{Trace}
use Rattle.unordered.specs.declared.Unordered.{Unordered}
use Rattle.unordered.specs.Kept.{held, low_of, high_of, rank_at}
use Rattle.unordered.specs.Kept.{Ranks, AllRanks}
use Rattle.unordered.specs.Turns.{TwoWorkers, RanksKept, Turn, OtherRanks}
use Rattle.unordered.proofs.Entries.{Place, place-given, two-workers}
use Rattle.unordered.proofs.Turns.{Moved}

-- ---- the others, where one pair of ends moved

pub ranks-but : {t : Trace} {table : List ℕ} {kept : Unordered} (w q : ℕ) → AllRanks t table kept
    → OtherRanks t table w q kept
ranks-but w q s = record { each = λ v r i j d. s.each v r i j }

pub ranks-moved : {t : Trace} {table : List ℕ} {w q : ℕ} {kept kept' : Unordered} → t.workers ≤ 16
    → Moved t w q kept kept' → OtherRanks t table w q kept → OtherRanks t table w q kept'
ranks-moved most m s =
    record {
      each = λ v r i j d.
          let old = s.each v r i j d in
          let low = m.low v r (omega arith) (omega arith) d in
          let high = m.high v r (omega arith) (omega arith) d in
          record {
            due = rw (m.due_same, high) old.due;
            gone = rw (m.gone_same, low, high) old.gone;
          };
    }

-- ---- those of a pair stored

abbrev pub ranked : Unordered → ℕ → ℕ → ℕ → ℕ → Unordered
ranked kept w q due gone =
    record {
      next = kept.next;
      sets = kept.sets;
      high = kept.high;
      low = kept.low;
      due = set kept.due (16 * w + q) due;
      gone = set kept.gone (16 * w + q) gone;
    }

turn-same : {t : Trace} {a v u : ℕ} {kept : Unordered} (w q due gone : ℕ) → Turn t a v u kept
    → Turn t a v u (ranked kept w q due gone)
unfolding held
turn-same w q due gone s =
    record {
      state =
          record {
            nexts = s.state.nexts;
            ends = s.state.ends;
            sets = λ v i o. s.state.sets v i o;
            rest = s.state.rest;
          };
      settled = s.settled;
    }

module _ {bytes table : List ℕ} {n a w : ℕ} (l : Place bytes table n a w) {q : ℕ}
    (few : q < (trace_of bytes).workers) {kept : Unordered}
  where
    pub ranks-kept : {due gone low high : ℕ} {kept' : Unordered} → RanksKept w q due gone kept kept'
        → Turn (trace_of bytes) a w (q + 1) kept → OtherRanks (trace_of bytes) table w q kept → high ≡ high_of kept w q
        → low ≡ low_of kept w q → due ≡ rank_at table (trace_of bytes).workers n high q
        → gone ≡ rank_at table (trace_of bytes).workers high low w
        → Turn (trace_of bytes) a w (q + 1) kept' × AllRanks (trace_of bytes) table kept'
    ranks-kept {due} {gone} {low} {high} x s others e f d c =
        rw x.stored (turn-same w q due gone s, record { each = each })
      where
        new : Unordered
        new = ranked kept w q due gone

        two : TwoWorkers w q
        two = two-workers l few

        here : Ranks (trace_of bytes) table new w q
        here =
            record {
              due = rw (rw x.stored at x.due_now, ← l.count, ← e) (omega (arith, d));
              gone = rw (rw x.stored at x.gone_now, ← e, ← f) (omega (arith, c));
            }

        each : (v r : ℕ) → v < (trace_of bytes).workers → r < (trace_of bytes).workers → Ranks (trace_of bytes) table new v r
        each v r i j = elim (equal? (16 * v + r) (16 * w + q)) [
          | inl z ↦
              let g = place-given l in
              let x : v ≡ w = omega (arith, two, g.most) in
              let y : r ≡ q = omega (arith, two, g.most) in
              rw (x, y) here
          | inr z ↦
              let old = others.each v r i j z in
              record {
                due = rw (get_or-set_other kept.due (16 * w + q) (16 * v + r) due 0 z) old.due;
                gone = rw (get_or-set_other kept.gone (16 * w + q) (16 * v + r) gone 0 z) old.gone;
              }
        ]
