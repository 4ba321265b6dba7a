-- Exchange: where a run lacks some operation of another, some operation of the other can be added to it. This is
-- what a monotone rule gives; maximal runs, carrying on and the shared order follow from it.
use mathlib.Core.List.Memᴰ
use mathlib.Core.List.{List, [], ◌∷◌, ◌++◌}
use mathlib.Core.Logic.{◌⊎◌, inl, inr}
use Prim.Native.Nat.{ℕ}
use Rattle.basics.specs.Membership.{◌∈◌, ◌∉◌, ◌⊆◌}
use Rattle.basics.proofs.Members.{here, there, in?, in-by-contradiction, ⊆-nil, ⊆-cons}
use Rattle.runs.specs.Rule.{Rule, Monotone}
use Rattle.runs.specs.Run.{Run}
use Rattle.runs.specs.Steps.{Addable, Closed, Steps, stop, step, done}
use Rattle.runs.proofs.Done.{done-same}
use Rattle.runs.proofs.RunSteps.{run-steps, steps-run, steps-append, steps-rest, steps-head}

-- some operation of s can be added to what is done
pub record Added (R : Rule) (e s : List ℕ) : Type 0 where
  pub which : ℕ
  pub from : which ∈ s
  pub can : Addable R e which

module _ {R : Rule} (mono : Monotone R) where
  -- what can be added to d is in the larger e, or can be added to it
  addable-more : {d e : List ℕ} {x : ℕ} → d ⊆ e → Addable R d x → (x ∈ e) ⊎ Addable R e x
  addable-more {e = e} {x = x} sub a = elim (in? x e) [ inl m ↦ inl m | inr n ↦ inr (add n) ]
    where
      add : x ∉ e → Addable R e x
      add n = record { below = a.below; new = n; allowed = mono.keeps x sub a.allowed }

  exchange-steps : {d e s : List ℕ} → d ⊆ e → Steps R d s → {y : ℕ} → y ∈ s → y ∉ e → Added R e s
  exchange-steps {e = e} sub (stop {d = d}) {y = y} m n = elim m [ ]
  exchange-steps {e = e} sub (step {s = s} {x = x} a p) {y} m n =
      go (addable-more sub a) m (λ q k. exchange-steps (⊆-cons sub q) p k n)
    where
      go : (x ∈ e) ⊎ Addable R e x → y ∈ x ∷ s → (x ∈ e → y ∈ s → Added R e s) → Added R e (x ∷ s)
      go (inr c) k f = record { which = x; from = here; can = c }
      go (inl q) (Memᴰ.head i) f = absurd (n (rw i q))
      go (inl q) (Memᴰ.tail k) f =
          let t = f q k in
          record { which = t.which; from = there t.from; can = t.can }

  -- ---- adding one operation to a run, in the two forms

  pub add-run : {r : List ℕ} {x : ℕ} → Run R r → Addable R (done [] r) x → Run R (r ++ x ∷ [])
  add-run p a = steps-run mono (steps-append (run-steps mono p) (step a stop))

  pub run-added : (r : List ℕ) (x : ℕ) → Run R (r ++ x ∷ []) → Addable R (done [] r) x
  run-added r x p = steps-head (steps-rest r (x ∷ []) (run-steps mono p))

  -- Exchange: if s has an operation that r lacks, some operation of s can be added to r.
  pub exchange : {r s : List ℕ} → Run R r → Run R s → {y : ℕ} → y ∈ s → y ∉ r
      → (x : ℕ) × (x ∈ s) × Run R (r ++ x ∷ [])
  exchange {r} {s} p q m n = (t.which, t.from, add-run p t.can)
    where
      t : Added R (done [] r) s
      t = exchange-steps ⊆-nil (run-steps mono q) m (λ k. n ((done-same r).forth.all k))

  -- where nothing can be added, every run is contained
  pub closed-contains : {e s : List ℕ} → Closed R e → Run R s → s ⊆ e
  closed-contains {e} {s} c p = record { all = λ {x = y} m. in-by-contradiction y e (never m) }
    where
      never : {y : ℕ} → y ∈ s → y ∉ e → ⊥
      never m n = c.none (exchange-steps ⊆-nil (run-steps mono p) m n).can
