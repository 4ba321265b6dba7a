-- The order of two operations of a trace. In order: must-precede, by its definition, by its test, and as the order that
-- all complete runs share; that neither must precede the other, by maximal valid executions; the pair order.
use mathlib.Core.Bool.{Bool, true, false, cond, not, ◌&&◌}
use mathlib.Core.List.{List}
use mathlib.Core.Logic.Iff
use mathlib.Core.Logic.{◌⊎◌, inl, inr, ◌↔◌, ◌≢◌}
use mathlib.Core.Path.{◌≡◌, refl, sym}
use Prim.Native.Nat.{ℕ, ◌<◌}
use lib.Dec.{T}
use lib.IntN.{ℤ, pos, negsuc, neg_ℤ}
use Rattle.basics.specs.Membership.{◌∈◌}
use Rattle.basics.proofs.Booleans.{zero_one, test-true, both-pass, one-fails, not-passes, not-fails}
use Rattle.basics.proofs.Members.{in-by-contradiction}
use Rattle.runs.specs.MustPrecede.{MustPrecede}
use Rattle.runs.specs.Run.{Complete, StandsBefore}
use Rattle.runs.proofs.SharedOrder.{must-precede-shared, must-precede-asymmetric, must-precede-test}
use Rattle.runs.proofs.SharedOrder.{must-precede-outside}
use Rattle.trace.specs.Trace.{Trace, size}
use Rattle.model.specs.Computed.{must_precede_in, unordered_in, pair_order}
use Rattle.model.specs.LargestRuns.{MaximalExecution}
use Rattle.model.specs.Orders.{MustPrecedeIn, Unordered, AlwaysBefore}
use Rattle.model.specs.Rule.{rule, WorkersKnown}
use Rattle.model.specs.Runs.{CompleteRunOf}
use Rattle.model.proofs.Largest.{execution-means, execution-exists}
use Rattle.model.proofs.RuleLaws.{rule-monotone, order-preference}
use Rattle.model.proofs.TraceRuns.{complete-means}

-- ---- must-precede

module _ (t : Trace) where
  pub must-precede-means : {a b : ℕ} → MustPrecede (rule t) a b ↔ MustPrecedeIn t a b
  must-precede-means = (
    λ p. record { differ = p.differ; outside = λ m k. p.outside m ((execution-means t).1 k) },
    λ p. record { differ = p.differ; outside = λ m k. p.outside m ((execution-means t).0 k) },
  )

  module _ {c : List ℕ} (complete : CompleteRunOf t c) {a b : ℕ} (i : a < size t) (j : b < size t) where
    -- the certain order is the order that all complete runs share
    pub must-precede-always : a ≢ b → MustPrecedeIn t a b ↔ AlwaysBefore t a b
    must-precede-always d = (
      λ p r k. shared.0 (must-precede-means.1 p) r ((complete-means t).1 k),
      λ f. must-precede-means.0 (shared.1 (λ r k. f r ((complete-means t).0 k))),
    )
      where
        shared : MustPrecede (rule t) a b ↔ ((r : List ℕ) → Complete (rule t) r → StandsBefore a b r)
        shared = must-precede-shared (rule-monotone t) ((complete-means t).1 complete) i j d

    pub must-precede-one-way : MustPrecedeIn t a b → MustPrecedeIn t b a → ⊥
    must-precede-one-way p q =
        must-precede-asymmetric (rule-monotone t) ((complete-means t).1 complete) i j
        (must-precede-means.1 p)
        (must-precede-means.1 q)

module _ {t : Trace} (w : WorkersKnown t) where
  pub must-precede-in-test : (a b : ℕ) → T (must_precede_in t a b) ↔ MustPrecedeIn t a b
  unfolding must_precede_in
  must-precede-in-test a b =
      Iff.trans (must-precede-test (rule-monotone t) (order-preference w) a b) (must-precede-means t)

-- neither must precede the other exactly if each is in every maximal valid execution without the other
pub unordered-executions : (t : Trace) {a b : ℕ} → a ≢ b
    → Unordered t a b
    ↔ (((m : List ℕ) → MaximalExecution t a m → b ∈ m) × ((m : List ℕ) → MaximalExecution t b m → a ∈ m))
unordered-executions t {a} {b} d = (
  λ u. (inside d u.not_before, inside (λ e. d (sym e)) u.not_after),
  λ p. record { not_before = outside p.0; not_after = outside p.1 },
)
  where
    inside : {x y : ℕ} → x ≢ y → (MustPrecedeIn t x y → ⊥) → (m : List ℕ) → MaximalExecution t x m → y ∈ m
    inside {x} {y} d n m k = in-by-contradiction y m (λ lacks.
        n ((must-precede-means t).0 ((must-precede-outside (rule-monotone t) d ((execution-means t).1 k)).1 lacks)))

    outside : {x y : ℕ} → ((m : List ℕ) → MaximalExecution t x m → y ∈ m) → MustPrecedeIn t x y → ⊥
    outside {x} f p = let (m, k) = execution-exists t x in p.outside m k (f m k)

-- ---- the pair order

abbrev sign : Bool → Bool → ℤ
sign forward backward = cond forward (negsuc 0) (cond backward (pos 1) (pos 0))

-- the three signs differ
record Differ : Type 0 where
  before-after : negsuc 0 ≡ pos 1 → ⊥
  before-zero : negsuc 0 ≡ pos 0 → ⊥
  after-zero : pos 1 ≡ pos 0 → ⊥

signs : Differ
signs =
    record {
      before-after = λ e. zero_one cc;
      before-zero = λ e. zero_one cc;
      after-zero = λ e. zero_one cc;
    }

sign-before : (x y : Bool) → (sign x y ≡ negsuc 0) ↔ T x
sign-before true y = (λ e. tt, λ h. refl)
sign-before false true = (λ e. signs.before-after (sym e), λ h. absurd h)
sign-before false false = (λ e. signs.before-zero (sym e), λ h. absurd h)

-- where not both tests pass
sign-after : (x y : Bool) → (T x → T y → ⊥) → (sign x y ≡ pos 1) ↔ T y
sign-after true y n = (λ e. absurd (signs.before-after e), λ h. absurd (n tt h))
sign-after false true n = (λ e. tt, λ h. refl)
sign-after false false n = (λ e. signs.after-zero (sym e), λ h. absurd h)

sign-swap : (x y : Bool) → (T x → T y → ⊥) → sign y x ≡ neg_ℤ (sign x y)
sign-swap true true n = absurd (n tt tt)
sign-swap true false n = refl
sign-swap false true n = refl
sign-swap false false n = refl

sign_zero : (x y : Bool) → (sign x y ≡ pos 0) ↔ (not x && not y ≡ true)
sign_zero true y = (λ e. absurd (signs.before-zero e), λ e. absurd ((test-true false).0 e))
sign_zero false true = (λ e. absurd (signs.after-zero e), λ e. absurd ((test-true false).0 e))
sign_zero false false = (λ e. refl, λ e. refl)

sign-one-of : (x y : Bool) → (sign x y ≡ negsuc 0) ⊎ (sign x y ≡ pos 1) ⊎ (sign x y ≡ pos 0)
sign-one-of true y = inl refl
sign-one-of false true = inr (inl refl)
sign-one-of false false = inr (inr refl)

module _ (t : Trace) (a b : ℕ) where
  -- by the two tests
  pub order-first : must_precede_in t a b ≡ true → pair_order t a b ≡ negsuc 0
  unfolding pair_order
  order-first e = rw e

  pub order-second : must_precede_in t a b ≡ false → must_precede_in t b a ≡ true → pair_order t a b ≡ pos 1
  unfolding pair_order
  order-second e f = rw (e, f)

  pub order-neither : must_precede_in t a b ≡ false → must_precede_in t b a ≡ false → pair_order t a b ≡ pos 0
  unfolding pair_order
  order-neither e f = rw (e, f)

  pub pair-order-one-of : (pair_order t a b ≡ negsuc 0) ⊎ (pair_order t a b ≡ pos 1) ⊎ (pair_order t a b ≡ pos 0)
  unfolding pair_order
  pair-order-one-of = sign-one-of (must_precede_in t a b) (must_precede_in t b a)

module _ {t : Trace} (w : WorkersKnown t) (a b : ℕ) where
  pub unordered-test : (unordered_in t a b ≡ true) ↔ Unordered t a b
  unordered-test =
      Iff.trans
      (both-pass (not (must_precede_in t a b)) (not (must_precede_in t b a))
      (not-passes (must_precede_in t a b) (must-precede-in-test w a b))
      (not-passes (must_precede_in t b a) (must-precede-in-test w b a)))
      (λ p. record { not_before = p.0; not_after = p.1 }, λ u. (u.not_before, u.not_after))

  pub ordered-test : (unordered_in t a b ≡ false) ↔ (MustPrecedeIn t a b ⊎ MustPrecedeIn t b a)
  ordered-test =
      one-fails (not (must_precede_in t a b)) (not (must_precede_in t b a))
      (not-fails (must_precede_in t a b) (must-precede-in-test w a b))
      (not-fails (must_precede_in t b a) (must-precede-in-test w b a))

  -- 0 exactly if neither must precede the other
  pub pair-order-zero : (pair_order t a b ≡ pos 0) ↔ Unordered t a b
  unfolding pair_order
  pair-order-zero = Iff.trans (sign_zero (must_precede_in t a b) (must_precede_in t b a)) unordered-test

  pub pair-order-some : pair_order t a b ≢ pos 0 → MustPrecedeIn t a b ⊎ MustPrecedeIn t b a
  pair-order-some d = go (unordered_in t a b) refl
    where
      go : (u : Bool) → unordered_in t a b ≡ u → MustPrecedeIn t a b ⊎ MustPrecedeIn t b a
      go true e = absurd (d (pair-order-zero.1 (unordered-test.0 e)))
      go false e = ordered-test.0 e

module _ {t : Trace} (w : WorkersKnown t) {c : List ℕ} (complete : CompleteRunOf t c) {a b : ℕ}
    (i : a < size t) (j : b < size t) where
  one_way : T (must_precede_in t a b) → T (must_precede_in t b a) → ⊥
  one_way p q = must-precede-one-way t complete i j ((must-precede-in-test w a b).0 p) ((must-precede-in-test w b a).0 q)

  module _ (d : a ≢ b) where
    certain : MustPrecedeIn t a b ↔ AlwaysBefore t a b
    certain = must-precede-always t complete i j d

    certain-back : MustPrecedeIn t b a ↔ AlwaysBefore t b a
    certain-back = must-precede-always t complete j i (λ e. d (sym e))

    forward : T (must_precede_in t a b) ↔ AlwaysBefore t a b
    forward = Iff.trans (must-precede-in-test w a b) certain

    backward : T (must_precede_in t b a) ↔ AlwaysBefore t b a
    backward = Iff.trans (must-precede-in-test w b a) certain-back

    -- −1 exactly when a stands before b in every complete run
    pub pair-order-before : (pair_order t a b ≡ negsuc 0) ↔ AlwaysBefore t a b
    unfolding pair_order
    pair-order-before = Iff.trans (sign-before (must_precede_in t a b) (must_precede_in t b a)) forward

    -- +1 exactly when b stands before a in every complete run
    pub pair-order-after : (pair_order t a b ≡ pos 1) ↔ AlwaysBefore t b a
    unfolding pair_order
    pair-order-after = Iff.trans (sign-after (must_precede_in t a b) (must_precede_in t b a) one_way) backward

    -- otherwise 0
    pub pair-order-otherwise : (pair_order t a b ≡ pos 0) ↔ ((AlwaysBefore t a b → ⊥) × (AlwaysBefore t b a → ⊥))
    pair-order-otherwise =
        Iff.trans (pair-order-zero w a b) (
          λ u. (λ f. u.not_before (certain.1 f), λ f. u.not_after (certain-back.1 f)),
          λ p. record { not_before = λ m. p.0 (certain.0 m); not_after = λ m. p.1 (certain-back.0 m) },
        )

  -- "swapping the two negates it"
  pub pair-order-swap : pair_order t b a ≡ neg_ℤ (pair_order t a b)
  unfolding pair_order
  pair-order-swap = sign-swap (must_precede_in t a b) (must_precede_in t b a) one_way
