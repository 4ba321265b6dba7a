-- The run that holds b back, by document 01's words. In order: a worker's next operation that may run is one that the
-- rule lets be added; the lowest-numbered worker first; the held-back run that is computed is the one of document 01,
-- and the only one; it is complete, and what it shows of the order of a pair. In document 01's words what is done, d,
-- stands in the order in which it was done; in the theory of runs, e, the latest stands first.
use mathlib.Core.Bool.{not}
use mathlib.Core.List.{List, []}
use mathlib.Core.Logic.{inl, inr, ◌↔◌, ◌≢◌}
use mathlib.Core.Path.{◌≡◌, refl, sym}
use native.Mathlib.Omega.{arith}
use Prim.Native.Nat.{ℕ, ◌<◌, ◌≤◌}
use lib.IntN.{pos}
use lib.ListN.{length}
use lib.Dec.{T, eqb, eqb→eq, eqb_refl, T_not, not_T}
use Rattle.basics.specs.Membership.{SameOperations}
use Rattle.basics.proofs.Booleans.{and_left, and_right, and_intro, less?}
use Rattle.basics.proofs.Members.{same-snoc}
use Rattle.runs.specs.Rule.{Rule, without}
use Rattle.runs.specs.Run.{StandsBefore}
use Rattle.runs.specs.Steps.{Addable}
use Rattle.runs.specs.Workers.{LowestFirst, HoldsBack, none_can, moves}
use Rattle.runs.proofs.Before.{before-asymmetric}
use Rattle.runs.proofs.Done.{done-same}
use Rattle.runs.proofs.HoldingBack.{holding-back-complete, holding-back-before, holding-back-holds, holds-back-unique}
use Rattle.trace.specs.Trace.{Trace, size, worker_of}
use Rattle.model.specs.Computed.{pair_order, held_back_run}
use Rattle.model.specs.Moves.{CanMove, LowestFirstRun, takes, Only, Nothing, HeldBackRun}
use Rattle.model.specs.Moves as words
use Rattle.model.specs.Orders.{MustPrecedeIn, Unordered, SometimesBefore}
use Rattle.model.specs.Rule.{rule, WorkersKnown}
use Rattle.model.specs.Runs.{CompleteRunOf}
use Rattle.model.proofs.Largest.{complete-run-length}
use Rattle.model.proofs.RuleLaws.{rule-monotone, rule-in-turn, order-ascending, order-preference}
use Rattle.model.proofs.SharedOrder.{must-precede-means, pair-order-zero, pair-order-otherwise}
use Rattle.model.proofs.TraceRuns.{may-means, complete-means}

-- the rule that excludes some operations lets the others be next
record Excludes (t : Trace) (R : Rule) (excluded : ℕ → Type 0) : Type 0 where
  size_same : R.size ≡ size t
  may-same : (d : List ℕ) (x : ℕ) → T (R.may d x) ↔ (T ((rule t).may d x) × (excluded x → ⊥))

nothing-excluded : (t : Trace) → Excludes t (rule t) Nothing
nothing-excluded t = record { size_same = refl; may-same = λ d x. (λ h. (h, λ z. z), λ p. p.0) }

only-excluded : (t : Trace) (b : ℕ) → Excludes t (without (rule t) b) (Only b)
only-excluded t b = record { size_same = refl; may-same = same }
  where
    same : (d : List ℕ) (x : ℕ) → T ((without (rule t) b).may d x) ↔ (T ((rule t).may d x) × (Only b x → ⊥))
    same d x = (forth, back)
      where
        forth : T ((without (rule t) b).may d x) → T ((rule t).may d x) × (Only b x → ⊥)
        forth h =
            let n = and_right ((rule t).may d x) (not (eqb x b)) h in
            (and_left ((rule t).may d x) _ h, λ e. T_not (eqb x b) n (rw e (eqb_refl b)))

        back : T ((rule t).may d x) × (Only b x → ⊥) → T ((without (rule t) b).may d x)
        back p = and_intro ((rule t).may d x) _ p.0 (not_T (eqb x b) (λ h. p.1 (eqb→eq x b h)))

module _ {t : Trace} {R : Rule} {excluded : ℕ → Type 0} (s : Excludes t R excluded) where
  -- ---- a worker's next operation that may run

  can-add : {d : List ℕ} {q x : ℕ} → CanMove t excluded d q x → Addable R d x
  can-add {d} {q} {x} c =
      record {
        below = rw s.size_same c.next.operation;
        new = c.next.new;
        allowed = (s.may-same d x).1 ((may-means t d x).1 (λ y e. c.next.earlier_done e, c.may_run), c.allowed);
      }

  add-can : {d : List ℕ} {x : ℕ} → Addable R d x → CanMove t excluded d (worker_of t x) x
  add-can {d} {x} a =
      let m = (s.may-same d x).0 a.allowed in
      let p = (may-means t d x).0 m.0 in
      let below : x < size t = rw s.size_same at a.below in
      record {
        next = record { operation = below; own = refl; new = a.new; earlier_done = λ {y} e. p.0 y e };
        may_run = p.1;
        allowed = m.1;
      }

  -- in which order it was done makes no difference
  can-same : {d e : List ℕ} {q x : ℕ} → SameOperations e d → CanMove t excluded d q x → CanMove t excluded e q x
  can-same i c =
      record {
        next = record {
          operation = c.next.operation;
          own = c.next.own;
          new = λ h. c.next.new (i.forth.all h);
          earlier_done = λ h. i.back.all (c.next.earlier_done h);
        };
        may_run = record {
          posted = λ w. let (y, h, p) = c.may_run.posted w in (y, i.back.all h, p);
        };
        allowed = c.allowed;
      }

  turned : {d e : List ℕ} → SameOperations e d → SameOperations d e
  turned i = record { forth = i.back; back = i.forth }

  -- ---- the lowest-numbered worker first

  lowest-forth : {d e r : List ℕ} → SameOperations e d → LowestFirstRun t excluded d r
      → LowestFirst (worker_of t) R e r
  lowest-forth i (words.none_can f) = none_can (record { none = λ a. f _ _ (can-same (turned i) (add-can a)) })
  lowest-forth {e = e} i (takes q x c low p) =
      moves (record { can = can-add (can-same i c); lowest = λ {y} a. lowest y a }) (lowest-forth (same-snoc i) p)
    where
      lowest : (y : ℕ) → Addable R e y → worker_of t x ≤ worker_of t y
      lowest y a = elim (less? (worker_of t y) (worker_of t x)) [
        | inl l ↦ absurd (low (worker_of t y) y (rw c.next.own at l) (can-same (turned i) (add-can a)))
        | inr l ↦ l
      ]

  lowest-back : {d e r : List ℕ} → SameOperations e d → LowestFirst (worker_of t) R e r
      → LowestFirstRun t excluded d r
  lowest-back i (none_can e) = words.none_can (λ q x c. e.none (can-add (can-same i c)))
  lowest-back {d = d} i (moves {x = x} a p) =
      takes (worker_of t x) x (can-same (turned i) (add-can a.can)) low (lowest-back (same-snoc i) p)
    where
      low : (lower y : ℕ) → lower < worker_of t x → CanMove t excluded d lower y → ⊥
      low lower y l c = omega (arith, a.lowest (can-add (can-same i c)), c.next.own)

-- ---- the held-back run

module _ (t : Trace) where
  held-back-means : {b : ℕ} {r : List ℕ} → HoldsBack (worker_of t) (rule t) b r ↔ HeldBackRun t b r
  held-back-means {b} = (
    λ h. record {
      without_b = h.without_b;
      on = h.on;
      parts = h.parts;
      other_than_b = lowest-back (only-excluded t b) (done-same []) h.other_than_b;
      to_the_end = lowest-back (nothing-excluded t) (done-same h.without_b) h.to_the_end;
    },
    λ h. record {
      without_b = h.without_b;
      on = h.on;
      parts = h.parts;
      other_than_b = lowest-forth (only-excluded t b) (done-same []) h.other_than_b;
      to_the_end = lowest-forth (nothing-excluded t) (done-same h.without_b) h.to_the_end;
    },
  )

module _ {t : Trace} (w : WorkersKnown t) where
  -- it is the run of document 01's rule
  pub held-back-run : (b : ℕ) → HeldBackRun t b (held_back_run t b)
  unfolding held_back_run
  held-back-run b =
      (held-back-means t).0 (holding-back-holds (rule-monotone t) (order-ascending t) (order-preference w) b)

  -- and there is no other
  pub held-back-only : (b : ℕ) {r : List ℕ} → HeldBackRun t b r → r ≡ held_back_run t b
  unfolding held_back_run
  held-back-only b h =
      holds-back-unique (rule-monotone t) (order-ascending t) (order-preference w) (rule-in-turn t) b
      ((held-back-means t).1 h)

  -- ---- where there is a complete run

  module _ {c : List ℕ} (complete : CompleteRunOf t c) where
    pub held-back-complete : (b : ℕ) → CompleteRunOf t (held_back_run t b)
    unfolding held_back_run
    held-back-complete b =
        (complete-means t).0
        (holding-back-complete (rule-monotone t) (order-preference w) ((complete-means t).1 complete) b)

    pub held-back-length : (b : ℕ) → length (held_back_run t b) ≡ size t
    held-back-length b = complete-run-length t (held-back-complete b)

    -- a stands before b in it, unless b is certain before a
    pub held-back-before : {a b : ℕ} → b < size t → a ≢ b → (MustPrecedeIn t b a → ⊥)
        → StandsBefore a b (held_back_run t b)
    unfolding held_back_run
    held-back-before l d n =
        holding-back-before (rule-monotone t) (order-preference w) ((complete-means t).1 complete) l d
        (λ p. n ((must-precede-means t).0 p))

    -- the pair order is 0 exactly if there is a complete run with a before b, and one with b before a
    pub pair-order-both : {a b : ℕ} → a < size t → b < size t → a ≢ b
        → (pair_order t a b ≡ pos 0) ↔ (SometimesBefore t a b × SometimesBefore t b a)
    pair-order-both {a} {b} i j d = (λ e. forth ((pair-order-zero w a b).0 e), back)
      where
        forth : Unordered t a b → SometimesBefore t a b × SometimesBefore t b a
        forth u = (
          (held_back_run t b, held-back-complete b, held-back-before j d u.not_after),
          (held_back_run t a, held-back-complete a, held-back-before i (λ e. d (sym e)) u.not_before),
        )

        back : SometimesBefore t a b × SometimesBefore t b a → pair_order t a b ≡ pos 0
        back s = (pair-order-otherwise w complete i j d).1 (
          λ f. let (r, c, l) = s.1 in before-asymmetric c.is_a_run.different (f r c) l,
          λ f. let (r, c, l) = s.0 in before-asymmetric c.is_a_run.different (f r c) l,
        )
