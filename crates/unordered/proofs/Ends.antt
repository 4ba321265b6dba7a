-- The ends of the stretch of q's operations in w's set. In order: both ends; what lies between them.
use mathlib.Core.Bool.{Bool, true, false, not, ◌&&◌, ◌||◌}
use mathlib.Core.Logic.{◌⊎◌, inl, inr, ◌≢◌}
use mathlib.Core.Path.{◌≡◌, refl, ap}
use native.Mathlib.Omega.{arith}
use Prim.Native.Nat.{ℕ, ◌+◌, ◌<◌, ◌≤◌}
use lib.Dec.{eqb, leb, ltb}
use borrow.Author.Tests.{lt-ltb, le-ltb, le-leb, lt-leb, eq-eqb, ne_eqb}
use Rattle.basics.proofs.Booleans.{equal?, less?}
use Rattle.trace.specs.Trace.{Trace, size}
use Rattle.model.specs.Computed.{must_precede_in}
use Rattle.unordered.specs.Kept.{IsOf, EndAt, NextAt, between, Ends}
use Rattle.unordered.proofs.HeldBits.{or-false, and-true}
use Rattle.unordered.proofs.Order.{Given, certain-on, uncertain-on}

-- ---- both ends

module _ {t : Trace} (g : Given t) where
  pub of-few : {q b : ℕ} → IsOf t q b → q < t.workers
  of-few {b = b} i = omega (arith, g.known.known b i.below, i.worker)

  pub end-few : {q j : ℕ} → EndAt t q j → j ≤ 1024
  end-few {j = j} e = elim (less? j (size t)) [ inl l ↦ omega (arith, g.few) | inr l ↦ omega (arith, e.end l) ]

  pub low-inside : {a w q low high : ℕ} → Ends t a w q low high → low < high → IsOf t q low
  low-inside {low = low} e l = elim (less? low (size t)) [
    | inl i ↦ record { below = i; worker = e.low_place.own i }
    | inr i ↦ absurd (omega (arith, e.low_place.end i, end-few e.high_place))
  ]

  pub high-inside : {a w q low high : ℕ} → Ends t a w q low high → high < size t → IsOf t q high × (w ≢ q)
  high-inside e l =
      (record { below = l; worker = e.high_place.own l }, λ s. omega (arith, e.own s, e.ascend, g.few))

  module _ {a w q low high : ℕ} (turn : IsOf t w a) (e : Ends t a w q low high) where
    pub more-ends : {after : ℕ} → high < size t → must_precede_in t a high ≡ false → NextAt t q (high + 1) after
        → Ends t a w q low after
    more-ends {after} l un n =
        record {
          low_place = e.low_place;
          high_place = n.place;
          ascend = omega (arith, e.ascend, n.ahead);
          own = e.own;
          before = e.before;
          not_after = not_after;
        }
      where
        not_after : {b k : ℕ} → w ≢ q → IsOf t q b → b < after → IsOf t w k → a ≤ k → must_precede_in t k b ≡ false
        not_after {b} d i r j m = elim (less? b high) [
          | inl s ↦ e.not_after d i s j m
          | inr s ↦ elim (equal? b high) [
            | inl z ↦ rw z (uncertain-on g high turn j m un)
            | inr z ↦ absurd (omega (arith, n.least i (omega (arith, z))))
          ]
        ]

    pub less-ends : {after : ℕ} → low < high → must_precede_in t low a ≡ true → NextAt t q (low + 1) after
        → Ends t a w q after high
    less-ends {after} l c n =
        record {
          low_place = n.place;
          high_place = e.high_place;
          ascend = elim (less? high (size t)) [
            | inl r ↦ n.least (record { below = r; worker = e.high_place.own r }) (omega arith)
            | inr r ↦ omega (arith, e.high_place.end r, end-few n.place)
          ];
          own = λ s. absurd (omega (arith, e.own s, (low-inside e l).below, g.few));
          before = before;
          not_after = e.not_after;
        }
      where
        before : {b k : ℕ} → w ≢ q → IsOf t q b → b < after → IsOf t w k → a ≤ k → must_precede_in t b k ≡ true
        before {b} d i r j m = elim (less? b low) [
          | inl s ↦ e.before d i s j m
          | inr s ↦ elim (equal? b low) [
            | inl z ↦ rw z (certain-on g (low-inside e l).below turn j m c)
            | inr z ↦ absurd (omega (arith, n.least i (omega (arith, z))))
          ]
        ]

-- ---- what lies between them

module _ {t : Trace} {q end after : ℕ} (n : NextAt t q (end + 1) after) {b : ℕ} (i : IsOf t q b) where
  pub between_more : (low : ℕ) → low ≤ end → between low after b ≡ between low end b || eqb b end
  between_more low l = elim (equal? b end) [
    | inl e ↦
        let above : end < after = omega (arith, n.ahead) in
        rw (e, le-leb low end l, lt-ltb end after above, le-ltb end end (omega arith), eq-eqb end end refl)
    | inr d ↦ rw (ne_eqb b end d, or-false) (ap (λ (v : Bool). leb low b && v) (go (less? b end) d))
  ]
    where
      go : (b < end) ⊎ (end ≤ b) → b ≢ end → ltb b after ≡ ltb b end
      go (inl s) d = rw (lt-ltb b end s) (lt-ltb b after (omega (arith, n.ahead)))
      go (inr s) d = rw (le-ltb b end s) (le-ltb b after (n.least i (omega (arith, d))))

  pub between-less : (high : ℕ) → end < high → between after high b ≡ between end high b && not (eqb b end)
  between-less high l = elim (equal? b end) [
    | inl e ↦
        let above : end < after = omega (arith, n.ahead) in
        rw (e, lt-leb after end above, le-leb end end (omega arith), lt-ltb end high l, eq-eqb end end refl)
    | inr d ↦ rw (ne_eqb b end d, and-true) (ap (λ (v : Bool). v && ltb b high) (go (less? b end) d))
  ]
    where
      go : (b < end) ⊎ (end ≤ b) → b ≢ end → leb after b ≡ leb end b
      go (inl s) d = rw (lt-leb end b s) (lt-leb after b (omega (arith, n.ahead)))
      go (inr s) d = rw (le-leb end b s) (le-leb after b (n.least i (omega (arith, d))))
