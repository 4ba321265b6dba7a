-- A worker's operations by how many come before them. In order: where there is one; where there is none; at a lower
-- rank.
use mathlib.Core.Logic.{◌⊎◌, inl, inr}
use mathlib.Core.Path.{◌≡◌, refl}
use native.Mathlib.Omega.{arith}
use Prim.Native.Nat.{ℕ, ◌<◌, ◌≤◌}
use lib.ListN.{get_or-eq_default}
use Rattle.basics.specs.Membership.{up_to}
use Rattle.basics.proofs.Booleans.{less?}
use Rattle.runs.specs.Workers.{count, earlier, operations_of}
use Rattle.runs.proofs.Counts.{nth}
use Rattle.runs.proofs.Places.{operations_of-length, operations_of-at}
use Rattle.trace.specs.Trace.{Trace, size, worker_of}
use Rattle.index.specs.Indexed.{Rth}
use Rattle.index.specs.Steps.{operation_at}

-- ---- one with r earlier ones

module _ (t : Trace) where
  pub rth-at : {q r x : ℕ} → Rth t q r x → operation_at t q r ≡ x
  rth-at {q} {r} {x} h = rw (h.ahead, h.own) at (operations_of-at (worker_of t) (size t) x (size t) h.below)

  -- an operation stands where it has as many earlier ones
  pub own_at : (x : ℕ) → x < size t → operation_at t (worker_of t x) (earlier (worker_of t) x) ≡ x
  own_at x l = rth-at (record { below = l; own = refl; ahead = refl })

  module _ (q i : ℕ) where
    pub at_some : i < count (worker_of t) q (up_to (size t)) → Rth t q i (operation_at t q i)
    at_some h =
        let x = nth (worker_of t) q i (size t) h in
        let ahead : earlier (worker_of t) x.which ≡ i = rw x.own x.ahead in
        let r : Rth t q i x.which = record { below = x.before; own = x.own; ahead = ahead } in
        rw (rth-at r) r

    -- ---- none

    pub at_none : count (worker_of t) q (up_to (size t)) ≤ i → operation_at t q i ≡ size t
    at_none h =
        let all = operations_of-length (worker_of t) q (size t) in
        get_or-eq_default (operations_of (worker_of t) q (size t)) (size t) (omega (arith, all, h))

    -- one of the two holds
    left? : (i < count (worker_of t) q (up_to (size t))) ⊎ (count (worker_of t) q (up_to (size t)) ≤ i)
    left? = less? i (count (worker_of t) q (up_to (size t)))

    pub at-rth : operation_at t q i < size t → Rth t q i (operation_at t q i)
    at-rth h = elim left? [ inl l ↦ at_some l | inr l ↦ absurd (omega (arith, h, at_none l)) ]

    pub at_most : operation_at t q i ≤ size t
    at_most = elim left? [ inl l ↦ omega (arith, (at_some l).below) | inr l ↦ omega (arith, at_none l) ]

    pub at_count : operation_at t q i < size t → i < count (worker_of t) q (up_to (size t))
    at_count h = elim left? [ inl l ↦ l | inr l ↦ absurd (omega (arith, h, at_none l)) ]

  -- ---- at a lower rank

  pub at-inside : (q j i : ℕ) → operation_at t q j < size t → i ≤ j → operation_at t q i < size t
  at-inside q j i l h = (at_some q i (omega (arith, at_count q j l, h))).below
