-- A turn from its start to its end: the set of a's worker, and the state for the operations behind a.
use mathlib.Core.Bool.{Bool, true, false, not, ◌&&◌}
use mathlib.Core.List.{List}
use mathlib.Core.Logic.{◌⊎◌, inl, inr, ◌≢◌}
use mathlib.Core.Path.{◌≡◌, refl, sym, ap, ◌∙◌}
use native.Mathlib.Omega.{arith}
use Prim.Native.Nat.{ℕ, ◌+◌, ◌<◌, ◌≤◌}
use lib.Dec.{eqb, leb, ltb}
use borrow.Author.Tests.{lt-ltb, le-ltb, le-leb, lt-leb, eq-eqb, ne_eqb}
use Rattle.basics.proofs.Booleans.{equal?, less?}
use Rattle.trace.specs.Reading.{trace_of}
use Rattle.trace.specs.Trace.{Trace, size, worker_of}
use Rattle.model.specs.Computed.{must_precede_in, unordered_in}
use Rattle.unordered.specs.declared.Unordered.{Unordered}
use Rattle.unordered.specs.Kept.{IsOf, held, low_of, between, Ends, Kept, AllRanks}
use Rattle.unordered.specs.Kept.{Carried, Now}
use Rattle.unordered.specs.Turns.{Settled, Turn}
use Rattle.unordered.proofs.Ends.{of-few}
use Rattle.unordered.proofs.Entries.{Place, place-given}
use Rattle.unordered.proofs.Order.{Given, certain-own}

pub and-false : (b : Bool) → b && false ≡ false
and-false true = refl
and-false false = refl

pub turn-start : {t : Trace} {a w : ℕ} {kept : Unordered} → Kept t a kept → Turn t a w 0 kept
turn-start k = record { state = k; settled = λ r l. absurd (omega arith) }

module _ (t : Trace) (a b : ℕ) where
  unordered-before : must_precede_in t a b ≡ true → unordered_in t a b ≡ false
  unordered-before e = rw e

  unordered-after : must_precede_in t b a ≡ true → unordered_in t a b ≡ false
  unordered-after e = rw e (and-false (not (must_precede_in t a b)))

  unordered-neither : must_precede_in t a b ≡ false → must_precede_in t b a ≡ false → unordered_in t a b ≡ true
  unordered-neither e f = rw (e, f)

-- what lies between the ends that are right for a is unordered with it
settled-between : {t : Trace} {a w q low high b : ℕ} → IsOf t w a → w ≢ q → Ends t a w q low high
    → Settled t a q low high → IsOf t q b → between low high b ≡ unordered_in t a b
settled-between {t} {a} {low = low} {high} {b} turn d e s i = go (less? b high) (less? b low)
  where
    go : (b < high) ⊎ (high ≤ b) → (b < low) ⊎ (low ≤ b) → between low high b ≡ unordered_in t a b
    go (inr m) r =
        rw (le-ltb b high m, unordered-before t a b (s.ahead.certain i m)) (and-false (leb low b))
    go (inl m) (inl r) =
        rw (lt-leb low b r, unordered-after t a b (e.before d i r turn (omega arith)))
    go (inl m) (inr r) =
        rw (
          lt-ltb b high m,
          le-leb low b r,
          unordered-neither t a b (e.not_after d i m turn (omega arith)) (s.behind i r m),
        )

module _ {t : Trace} (g : Given t) {a w : ℕ} (turn : IsOf t w a) {kept : Unordered}
    (s : Turn t a w t.workers kept) where
  later-ends : {v q low high : ℕ} → Ends t a v q low high → Ends t (a + 1) v q low high
  later-ends e =
      record {
        low_place = e.low_place;
        high_place = e.high_place;
        ascend = e.ascend;
        own = e.own;
        before = λ d i l j m. e.before d i l j (omega arith);
        not_after = λ d i l j m. e.not_after d i l j (omega arith);
      }

  turn-later : Kept t (a + 1) kept
  turn-later =
      record {
        nexts = s.state.nexts;
        ends = λ v q i j. later-ends (s.state.ends v q i j);
        sets = λ v i o. s.state.sets v i o;
        rest = s.state.rest;
      }

  -- a's own worker: nothing of it is in the set
  own-none : {b : ℕ} → IsOf t w b → not (eqb a b) && unordered_in t a b ≡ false
  own-none {b} i = elim (equal? a b) [
    | inl e ↦ rw (eq-eqb a b e)
    | inr d ↦ elim (less? a b) [
      | inl l ↦ rw (unordered-before t a b (certain-own g turn i l)) (and-false (not (eqb a b)))
      | inr l ↦ rw (unordered-after t a b (certain-own g i turn (omega (arith, d)))) (and-false (not (eqb a b)))
    ]
  ]

  in-set : {q b : ℕ} → IsOf t q b → held kept w b ≡ not (eqb a b) && unordered_in t a b
  in-set {q} {b} i = s.state.sets w (of-few g turn) i ∙ elim (equal? w q) [
    | inl e ↦
        let own = (s.state.ends w q (of-few g turn) (of-few g i)).own e in
        let low = lt-leb (low_of kept w q) b (omega (arith, own, i.below, g.few)) in
        rw (low, own-none (rw (← e) at i))
    | inr d ↦
        let other = ne_eqb a b (λ z. d (sym turn.worker ∙ ap (worker_of t) z ∙ i.worker)) in
        rw other
        (settled-between turn d (s.state.ends w q (of-few g turn) (of-few g i)) (s.settled q (of-few g i)) i)
  ]

  turn-now : Now t a kept
  turn-now = record { each = λ b l. rw turn.worker (each b l (less? b (size t))) }
    where
      each : (b : ℕ) → b < 1024 → (b < size t) ⊎ (size t ≤ b)
          → held kept w b ≡ ltb b (size t) && (not (eqb a b) && unordered_in t a b)
      each b l (inl i) = rw (lt-ltb b (size t) i) (in-set (record { below = i; worker = refl }))
      each b l (inr i) = rw (le-ltb b (size t) i) (s.state.rest w b (of-few g turn) i l)

  turn_end : Kept t (a + 1) kept × Now t a kept
  turn_end = (turn-later, turn-now)

-- with the count that the code has read
pub turn-done : {bytes table : List ℕ} {n a w : ℕ} {kept : Unordered} → Place bytes table n a w
    → Turn (trace_of bytes) a w (trace_of bytes).workers kept → AllRanks (trace_of bytes) table kept
    → Carried (trace_of bytes) table (a + 1) kept × Now (trace_of bytes) a kept
turn-done l s r =
    let (state, set) = turn_end (place-given l) l.turn s in
    (record { state = state; ranks = r }, set)
