-- A run and its steps. In order: steps put together and taken apart; the tests; `Run` against `Steps`; lengths.
use mathlib.Core.Path.{◌≡◌, refl, ap}
use mathlib.Core.List.Memᴰ
use mathlib.Core.List.{List, [], ◌∷◌, ◌++◌, append_assoc}
use mathlib.Core.Logic.{◌↔◌}
use Prim.Native.Nat.{ℕ, ◌≤◌, ◌<◌}
use native.Mathlib.Omega.{arith}
use lib.Dec.{T, ltb→lt, lt→ltb, T_not, not_T}
use lib.ListN.{length, length-append}
use Rattle.basics.specs.Membership.{◌∈◌, ◌∉◌, SameOperations, Different, empty, fresh, mem}
use Rattle.basics.proofs.Booleans.{booleans}
use Rattle.basics.proofs.Members.{here, there, mem-test, in-by-contradiction, ⊆-refl}
use Rattle.basics.proofs.Members.{same-snoc, different-apart}
use Rattle.runs.specs.Rule.{Rule, Monotone}
use Rattle.runs.specs.Run.{Run, Complete}
use Rattle.runs.specs.Steps.{Addable, Steps, stop, step, done, addable, steps, is_run}
use Rattle.runs.proofs.Done.{done-same}
use Rattle.runs.proofs.Lengths.{below_length, holds-length}

module _ {R : Rule} where
  -- ---- steps put together and taken apart

  pub steps-append : {d s t : List ℕ} → Steps R d s → Steps R (done d s) t → Steps R d (s ++ t)
  steps-append stop q = q
  steps-append (step a p) q = step a (steps-append p q)

  pub steps_first : {d : List ℕ} (s t : List ℕ) → Steps R d (s ++ t) → Steps R d s
  steps_first [] t p = stop
  steps_first (x ∷ s) t (step a p) = step a (steps_first s t p)

  pub steps-rest : {d : List ℕ} (s t : List ℕ) → Steps R d (s ++ t) → Steps R (done d s) t
  steps-rest [] t p = p
  steps-rest (x ∷ s) t (step a p) = steps-rest s t p

  pub steps-head : {d s : List ℕ} {x : ℕ} → Steps R d (x ∷ s) → Addable R d x
  steps-head (step a p) = a

  pub steps-new : {d s : List ℕ} → Steps R d s → {x : ℕ} → x ∈ s → x ∉ d
  steps-new (stop {d = d}) x11 m = elim x11 [ ]
  steps-new (step a p) (Memᴰ.head e) m = a.new (rw e at m)
  steps-new (step a p) (Memᴰ.tail q) m = steps-new p q (there m)

  pub steps-below : {d s : List ℕ} → Steps R d s → {x : ℕ} → x ∈ s → x < R.size
  steps-below (stop {d = d}) x8 = elim x8 [ ]
  steps-below (step a p) (Memᴰ.head e) = rw e a.below
  steps-below (step a p) (Memᴰ.tail q) = steps-below p q

  pub steps-different : {d s : List ℕ} → Steps R d s → Different s
  steps-different stop = empty
  steps-different (step a p) = fresh (λ m. steps-new p m here) (steps-different p)

  -- ---- the tests

  pub addable-test : (d : List ℕ) (x : ℕ) → T (addable R d x) ↔ Addable R d x
  addable-test d x = (forth, back)
    where
      forth : T (addable R d x) → Addable R d x
      forth h = record { below = ltb→lt x R.size (search booleans); new = new; allowed = search booleans }
        where
          new : x ∉ d
          new m = T_not (mem x d) (search booleans) ((mem-test x d).1 m)

      back : Addable R d x → T (addable R d x)
      back a =
          let b = lt→ltb x R.size a.below in
          let n = not_T (mem x d) (λ h. a.new ((mem-test x d).0 h)) in
          let m = a.allowed in
          search booleans

  steps-are : (d s : List ℕ) → T (steps R d s) → Steps R d s
  steps-are d [] h = stop
  steps-are d (x ∷ s) h = step ((addable-test d x).0 (search booleans)) (steps-are (x ∷ d) s (search booleans))

  are-steps : {d s : List ℕ} → Steps R d s → T (steps R d s)
  are-steps stop = tt
  are-steps (step {d = d} {x = x} a p) =
      let h = (addable-test d x).1 a in
      let k = are-steps p in
      search booleans

  pub steps-test : (d s : List ℕ) → T (steps R d s) ↔ Steps R d s
  steps-test d s = (steps-are d s, λ p. are-steps p)

module _ {R : Rule} (mono : Monotone R) where
  -- ---- `Run` against `Steps`

  -- the list s of a run u ++ s is steps from u's operations
  run-steps-from : (u s : List ℕ) {d : List ℕ} → SameOperations d u → Run R (u ++ s) → Steps R d s
  run-steps-from u [] e r = stop
  run-steps-from u (x ∷ s) {d} e r = step add (run-steps-from (u ++ x ∷ []) s (same-snoc e) (rw append_assoc r))
    where
      new : x ∉ d
      new m = different-apart u s x r.different (e.forth.all m)

      allowed : T (R.may d x)
      allowed = mono.keeps x e.back (r.allowed u s x refl)

      add : Addable R d x
      add = record { below = r.below (Memᴰ.append_right u here); new = new; allowed = allowed }

  pub run-steps : {r : List ℕ} → Run R r → Steps R [] r
  run-steps {r} p = run-steps-from [] r (record { forth = ⊆-refl; back = ⊆-refl }) p

  pub steps-run : {r : List ℕ} → Steps R [] r → Run R r
  steps-run {r} p = record { below = λ m. steps-below p m; different = steps-different p; allowed = allowed }
    where
      allowed : (u v : List ℕ) (x : ℕ) → r ≡ u ++ x ∷ v → T (R.may u x)
      allowed u v x e = mono.keeps x (done-same u).forth (steps-head (steps-rest u (x ∷ v) (rw e at p))).allowed

  -- the executable test of a run
  pub run-test : (r : List ℕ) → T (is_run R r) ↔ Run R r
  run-test r = (λ h. steps-run ((steps-test [] r).0 h), λ p. (steps-test [] r).1 (run-steps p))

  -- a beginning of a run is a run
  pub run-first : (r s : List ℕ) → Run R (r ++ s) → Run R r
  run-first r s p = steps-run (steps_first r s (run-steps p))

pub run-empty : {R : Rule} → Run R []
run-empty = record { below = λ m. elim m [ ]; different = empty; allowed = λ u v x e. absurd (nothing u v x e) }
  where
    nothing : (u v : List ℕ) (x : ℕ) → [] ≡ u ++ x ∷ v → ⊥
    nothing u v x e = omega (arith, ap length e, length-append u (x ∷ v))

-- ---- lengths

pub run_length : {R : Rule} {r : List ℕ} → Run R r → length r ≤ R.size
run_length p = below_length (λ x m. p.below m) p.different

pub complete-length : {R : Rule} {r : List ℕ} → Complete R r → length r ≡ R.size
complete-length p = omega (arith, run_length p.is_a_run, holds-length p.holds)

-- a run of as many operations as there are is complete
pub length-complete : {R : Rule} {r : List ℕ} → Run R r → length r ≡ R.size → Complete R r
length-complete {R} {r} p e = record { is_a_run = p; holds = λ x l. in-by-contradiction x r (too_many x l) }
  where
    too_many : (x : ℕ) → x < R.size → x ∉ r → ⊥
    too_many x l n = omega (arith, below_length below (fresh n p.different))
      where
        below : (y : ℕ) → y ∈ x ∷ r → y < R.size
        below y (Memᴰ.head i) = omega arith
        below y (Memᴰ.tail m) = p.below m
