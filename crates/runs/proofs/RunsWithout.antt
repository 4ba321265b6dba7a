-- The runs that lack an operation are the runs of the rule without it, and so is all that is said of them: what
-- proofs/MaximalRuns shows for every monotone rule holds of them with no further proof.
use mathlib.Core.Path.{◌≡◌}
use mathlib.Core.List.Memᴰ
use mathlib.Core.List.{List, [], ◌∷◌, ◌++◌}
use mathlib.Core.Logic.Iff
use mathlib.Core.Logic.{inl, inr, ◌↔◌}
use Prim.Native.Nat.{ℕ, ◌≤◌}
use lib.Dec.{T, eqb, eqb→eq, eqb_refl, T_not, not_T}
use lib.ListN.{length}
use Rattle.basics.specs.Membership.{◌∉◌, ◌⊆◌, SameOperations}
use Rattle.basics.proofs.Booleans.{booleans, equal?}
use Rattle.basics.proofs.Members.{here, in_split, lacks-snoc}
use Rattle.runs.specs.Rule.{Rule, Monotone, without}
use Rattle.runs.specs.Run.{Run}
use Rattle.runs.specs.Maximal.{Maximal, Largest, MaximalWithout, LargestWithout}
use Rattle.runs.proofs.MaximalRuns.{maximal-contains, maximal-same, maximal-largest}

pub without-monotone : {R : Rule} → Monotone R → (a : ℕ) → Monotone (without R a)
without-monotone {R} mono a = record { keeps = λ {d} {e} x s h. keeps d e x s h }
  where
    keeps : (d e : List ℕ) (x : ℕ) → d ⊆ e → T ((without R a).may d x) → T ((without R a).may e x)
    keeps d e x s h = let k = mono.keeps x s in search booleans

-- "a run lacking a" is a run of the rule without a
pub run-without : {R : Rule} {a : ℕ} {r : List ℕ} → Run (without R a) r ↔ (Run R r × a ∉ r)
run-without {R} {a} {r} = (λ p. (plain p, lacks p), λ p. lacking p.0 p.1)
  where
    plain : Run (without R a) r → Run R r
    plain p = record { below = λ m. p.below m; different = p.different; allowed = allowed }
      where
        allowed : (u v : List ℕ) (x : ℕ) → r ≡ u ++ x ∷ v → T (R.may u x)
        allowed u v x e = let h = p.allowed u v x e in search booleans

    lacks : Run (without R a) r → a ∉ r
    lacks p m =
        let t = in_split m in
        let h = p.allowed t.0 t.1 a t.2 in
        T_not (eqb a a) (search booleans) (eqb_refl a)

    lacking : Run R r → a ∉ r → Run (without R a) r
    lacking p n = record { below = λ m. p.below m; different = p.different; allowed = allowed }
      where
        apart : (u v : List ℕ) (x : ℕ) → r ≡ u ++ x ∷ v → x ≡ a → ⊥
        apart u v x e i = n (rw (e, i) (Memᴰ.append_right u here))

        allowed : (u v : List ℕ) (x : ℕ) → r ≡ u ++ x ∷ v → T ((without R a).may u x)
        allowed u v x e =
            let h = p.allowed u v x e in
            let k = not_T (eqb x a) (λ q. apart u v x e (eqb→eq x a q)) in
            search booleans

module _ {R : Rule} {a : ℕ} {m : List ℕ} where
  -- "a run lacking a to which nothing but a can be added" is a maximal run of the rule without a
  pub maximal-without : MaximalWithout R a m ↔ Maximal (without R a) m
  maximal-without = (forth, back)
    where
      forth : MaximalWithout R a m → Maximal (without R a) m
      forth k = record { is_a_run = run-without.1 (k.is_a_run, k.lacks); maximal = λ x p. last x (run-without.0 p) }
        where
          last : (x : ℕ) → Run R (m ++ x ∷ []) × a ∉ m ++ x ∷ [] → ⊥
          last x p = p.1 (rw (← k.maximal x p.0) (Memᴰ.append_right m here))

      back : Maximal (without R a) m → MaximalWithout R a m
      back k = record { is_a_run = p.0; lacks = p.1; maximal = only }
        where
          p : Run R m × a ∉ m
          p = run-without.0 k.is_a_run

          only : (x : ℕ) → Run R (m ++ x ∷ []) → x ≡ a
          only x q =
              elim (equal? x a) [
                | inl e ↦ e
                | inr d ↦ absurd (k.maximal x (run-without.1 (q, lacks-snoc p.1 d)))
              ]

  -- "the run lacking a with the most operations" is a largest run of the rule without a
  pub largest-without : LargestWithout R a m ↔ Largest (without R a) m
  largest-without = (forth, back)
    where
      forth : LargestWithout R a m → Largest (without R a) m
      forth k = record { is_a_run = run-without.1 (k.is_a_run, k.lacks); most = most }
        where
          most : (r : List ℕ) → Run (without R a) r → length r ≤ length m
          most r p = let q = run-without.0 p in k.most r q.0 q.1

      back : Largest (without R a) m → LargestWithout R a m
      back k = record { is_a_run = p.0; lacks = p.1; most = λ r q n. k.most r (run-without.1 (q, n)) }
        where
          p : Run R m × a ∉ m
          p = run-without.0 k.is_a_run

-- What Definition 1 of report 1084 and document 01 say of the largest run without a.
module _ {R : Rule} (mono : Monotone R) {a : ℕ} where
  -- maximal and with the most operations are the same
  pub maximal-without-largest : {m : List ℕ} → MaximalWithout R a m ↔ LargestWithout R a m
  maximal-without-largest =
      Iff.trans maximal-without (Iff.trans (maximal-largest (without-monotone mono a)) (Iff.symm largest-without))

  -- it "contains every run lacking a"
  pub maximal-without-contains : {m r : List ℕ} → MaximalWithout R a m → Run R r → a ∉ r → r ⊆ m
  maximal-without-contains k p n =
      maximal-contains (without-monotone mono a) (maximal-without.0 k) (run-without.1 (p, n))

  -- "its set is unique"
  pub maximal-without-same : {m k : List ℕ} → MaximalWithout R a m → MaximalWithout R a k → SameOperations m k
  maximal-without-same p q = maximal-same (without-monotone mono a) (maximal-without.0 p) (maximal-without.0 q)
