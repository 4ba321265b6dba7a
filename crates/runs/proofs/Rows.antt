-- What the counts of a largest run without a tell (document 01, "Order table and order": the row of a). They are
-- the same whichever maximal run without a is taken, and a must precede b exactly when b's worker's count is below
-- b's rank. A worker's earlier operations must precede its later ones, so that, where there is a complete run, a's
-- worker's own count is how many come before a.
use mathlib.Core.Path.{◌≡◌}
use mathlib.Core.List.{List}
use mathlib.Core.Logic.{inl, inr, ◌↔◌, ◌≢◌}
use Prim.Native.Nat.{ℕ, ◌≤◌, ◌<◌}
use native.Mathlib.Omega.{arith}
use Rattle.basics.specs.Membership.{◌∈◌}
use Rattle.basics.proofs.Booleans.{less?}
use Rattle.runs.specs.Rule.{Rule, Monotone}
use Rattle.runs.specs.Maximal.{MaximalWithout}
use Rattle.runs.specs.MustPrecede.{MustPrecede}
use Rattle.runs.specs.Run.{Complete}
use Rattle.runs.specs.Workers.{InTurn, count, earlier}
use Rattle.runs.proofs.RunsWithout.{maximal-without-same}
use Rattle.runs.proofs.SharedOrder.{must-precede-outside, must-precede-asymmetric}
use Rattle.runs.proofs.Counts.{count_same, in-run, earlier-less, Nth, nth}

module _ {R : Rule} (mono : Monotone R) where
  pub row_same : (worker : ℕ → ℕ) {a : ℕ} {m k : List ℕ} → MaximalWithout R a m → MaximalWithout R a k
      → (q : ℕ) → count worker q m ≡ count worker q k
  row_same worker p q = count_same worker p.is_a_run.different q.is_a_run.different (maximal-without-same mono p q)

  pub must-precede-row : {worker : ℕ → ℕ} → InTurn R worker → {a b : ℕ} {m : List ℕ} → a ≢ b → MaximalWithout R a m
      → MustPrecede R a b ↔ (count worker (worker b) m ≤ earlier worker b)
  must-precede-row {worker} turn {a} {b} {m} d k = (forth, back)
    where
      inside : (b ∈ m) ↔ (earlier worker b < count worker (worker b) m)
      inside = in-run mono turn k.is_a_run b

      forth : MustPrecede R a b → count worker (worker b) m ≤ earlier worker b
      forth p = elim (less? (earlier worker b) (count worker (worker b) m)) [
        | inl l ↦ absurd (p.outside m k (inside.1 l))
        | inr l ↦ l
      ]

      back : count worker (worker b) m ≤ earlier worker b → MustPrecede R a b
      back l = (must-precede-outside mono d k).1 (λ i. too_many (inside.0 i))
        where
          too_many : earlier worker b < count worker (worker b) m → ⊥
          too_many h = omega arith

  module _ {worker : ℕ → ℕ} (turn : InTurn R worker) where
    pub must-precede-earlier : {a b : ℕ} → worker a ≡ worker b → a < b → MustPrecede R a b
    must-precede-earlier {a} {b} e l = record { differ = λ i. omega (arith, i); outside = outside }
      where
        outside : (m : List ℕ) → MaximalWithout R a m → b ∈ m → ⊥
        outside m k i =
            let less = earlier-less worker (worker b) b e l in
            let counted = (in-run mono turn k.is_a_run b).0 i in
            k.lacks ((in-run mono turn k.is_a_run a).1 (rw e (omega (arith, less, counted))))

    pub row-own : {c m : List ℕ} {a : ℕ} → Complete R c → a < R.size → MaximalWithout R a m
        → count worker (worker a) m ≡ earlier worker a
    row-own {c} {m} {a} complete below k = omega (arith, high, low)
      where
        high : earlier worker a < count worker (worker a) m → ⊥
        high l = k.lacks ((in-run mono turn k.is_a_run a).1 l)

        low : count worker (worker a) m < earlier worker a → ⊥
        low l = again (nth worker (worker a) (count worker (worker a) m) a l)
          where
            again : Nth worker (worker a) (count worker (worker a) m) a → ⊥
            again y =
                must-precede-asymmetric mono complete (omega (arith, y.before)) below
                (must-precede-earlier y.own y.before)
                ((must-precede-row turn (λ i. omega (arith, i, y.before)) k).1 (rw y.own (omega (arith, y.ahead))))
