-- The numbers that pass a test. In order: one more; how many; each of them; those of a list; those from a number on.
use mathlib.Core.Bool.{Bool, true, false, cond, true≢false}
use mathlib.Core.List.{List, [], ◌∷◌, ◌++◌, map-append, append-nil, append_assoc}
use mathlib.Core.Logic.{◌⊎◌, inl, inr}
use mathlib.Core.Path.{◌≡◌, refl, sym, ap, ◌∙◌}
use native.Mathlib.Nat.{add-zero, add-suc}
use native.Mathlib.Omega.{arith}
use Prim.Native.Nat.{ℕ, zero, suc, ◌+◌, ◌<◌, ◌≤◌}
use lib.ListN.{length, get_or, length-append, get_or-append}
use lib.Seq.{get_or-append_seam}
use mir.Val.{bool_byte}
use Rattle.basics.proofs.Booleans.{equal?, less?}
use Rattle.words.specs.Passing.{passing}
use Rattle.words.specs.Words.{raised}

-- ---- one more

module _ (f : ℕ → Bool) where
  pub passing-more : (b : ℕ) → f b ≡ true → passing f (suc b) ≡ passing f b ++ b ∷ []
  unfolding passing
  passing-more b e = rw e

  pub passing-same : (b : ℕ) → f b ≡ false → passing f (suc b) ≡ passing f b
  unfolding passing
  passing-same b e = rw e (append-nil (passing f b))

  pub passing-none : (b : ℕ) → ((k : ℕ) → k < b → f k ≡ false) → passing f b ≡ []
  unfolding passing
  passing-none zero h = refl
  passing-none (suc b) h = passing-same b (h b (omega arith)) ∙ passing-none b (λ k l. h k (omega arith))

  -- how many there are
  pub passing-count : (k : ℕ) → length (passing f (suc k)) ≡ length (passing f k) + bool_byte (f k)
  passing-count k = go (f k) refl
    where
      go : (r : Bool) → f k ≡ r → length (passing f (suc k)) ≡ length (passing f k) + bool_byte (f k)
      go true e = rw (passing-more k e, e) (length-append (passing f k) (k ∷ []))
      go false e = rw (passing-same k e, e) (omega arith)

  pub passing-zero : length (passing f 0) ≡ 0
  unfolding passing
  passing-zero = refl

  -- none from b on and below c
  pub passing-end : (b c : ℕ) → b ≤ c → ((k : ℕ) → b ≤ k → f k ≡ false) → passing f c ≡ passing f b
  passing-end b zero l h = ap (λ (k : ℕ). passing f k) (omega arith)
  passing-end b (suc c) l h = elim (equal? b (suc c)) [
    | inl e ↦ ap (λ (k : ℕ). passing f k) (sym e)
    | inr d ↦ passing-same c (h c (omega (arith, d))) ∙ passing-end b c (omega (arith, d)) h
  ]

  -- each of them is below n, and passes
  pub passing-at : (n i : ℕ) → i < length (passing f n)
      → (get_or (passing f n) i 0 < n) × (f (get_or (passing f n) i 0) ≡ true)
  unfolding passing
  passing-at zero i l = absurd (omega (arith, l))
  passing-at (suc b) i l = go (f b) refl (less? i (length (passing f b))) (passing-at b i)
    where
      go : (v : Bool) → f b ≡ v → (i < length (passing f b)) ⊎ (length (passing f b) ≤ i)
          → (i < length (passing f b) → (get_or (passing f b) i 0 < b) × (f (get_or (passing f b) i 0) ≡ true))
          → (get_or (passing f (suc b)) i 0 < suc b) × (f (get_or (passing f (suc b)) i 0) ≡ true)
      go v e (inl j) h =
          let (low, passes) = h j in
          let same = get_or-append (passing f b) (cond (f b) (b ∷ []) []) 0 i j in
          rw same (omega arith, passes)
      go true e (inr j) h =
          let last : i ≡ length (passing f b) = omega (arith, simp length-append at (rw (passing-more b e) at l)) in
          rw (passing-more b e, last, get_or-append_seam (passing f b) b [] 0) (omega arith, e)
      go false e (inr j) h = absurd (omega (arith, rw (passing-same b e) at l))

  -- those of a list that pass
  abbrev pub kept_of : List ℕ → List ℕ
  kept_of [] = []
  kept_of (x ∷ l) = cond (f x) (x ∷ kept_of l) (kept_of l)

  kept_append : (l m : List ℕ) → kept_of (l ++ m) ≡ kept_of l ++ kept_of m
  kept_append [] m = refl
  kept_append (x ∷ l) m = go (f x) (kept_append l m)
    where
      go : (v : Bool) → kept_of (l ++ m) ≡ kept_of l ++ kept_of m
          → cond v (x ∷ kept_of (l ++ m)) (kept_of (l ++ m)) ≡ cond v (x ∷ kept_of l) (kept_of l) ++ kept_of m
      go true i = ap (λ (r : List ℕ). x ∷ r) i
      go false i = i

  pub kept-one : (l : List ℕ) (x : ℕ) → f x ≡ true → kept_of (l ++ x ∷ []) ≡ kept_of l ++ x ∷ []
  kept-one l x e = rw (kept_append, e)

  pub kept_same : (l : List ℕ) (x : ℕ) → f x ≡ false → kept_of (l ++ x ∷ []) ≡ kept_of l
  kept_same l x e = rw (kept_append, e) (append-nil (kept_of l))

-- of the numbers that pass one test, those that pass a second one, which asks more
pub passing_kept : (f g : ℕ → Bool) → ((k : ℕ) → f k ≡ false → g k ≡ false) → (n : ℕ)
    → kept_of g (passing f n) ≡ passing g n
unfolding passing
passing_kept f g h zero = refl
passing_kept f g h (suc b) = go (f b) (g b) refl refl (passing_kept f g h b)
  where
    go : (v w : Bool) → f b ≡ v → g b ≡ w → kept_of g (passing f b) ≡ passing g b
        → kept_of g (passing f (suc b)) ≡ passing g (suc b)
    go true true e i p = rw (passing-more f b e, passing-more g b i, kept-one g (passing f b) b i, p)
    go true false e i p = rw (passing-more f b e, passing-same g b i, kept_same g (passing f b) b i, p)
    go false true e i p = absurd (true≢false (sym i ∙ h b e))
    go false false e i p = rw (passing-same f b e, passing-same g b i, p)

-- ---- tests that agree, and those from a number on

pub passing-agree : (f g : ℕ → Bool) (n : ℕ) → ((k : ℕ) → k < n → f k ≡ g k) → passing f n ≡ passing g n
unfolding passing
passing-agree f g zero h = refl
passing-agree f g (suc n) h = rw (passing-agree f g n (λ k l. h k (omega arith)), h n (omega arith))

-- those below `first`, and then the others, each found as so many from `first` on
pub passing-raised : (f : ℕ → Bool) (first n : ℕ)
    → passing f (first + n) ≡ passing f first ++ raised first (passing (λ i. f (first + i)) n)
unfolding passing
passing-raised f first zero = rw add-zero (sym (append-nil (passing f first)))
passing-raised f first (suc n) = go (f (first + n)) refl (passing-raised f first n)
  where
    g : ℕ → Bool
    g i = f (first + i)

    go : (v : Bool) → f (first + n) ≡ v → passing f (first + n) ≡ passing f first ++ raised first (passing g n)
        → passing f (first + suc n) ≡ passing f first ++ raised first (passing g (suc n))
    go true e i =
        rw (add-suc, passing-more f (first + n) e, passing-more g n e, map-append, i)
        (append_assoc (passing f first) (raised first (passing g n)) ((first + n) ∷ []))
    go false e i = rw (add-suc, passing-same f (first + n) e, passing-same g n e) i

-- ---- no more than there are numbers

pub passing-few : (f : ℕ → Bool) (n : ℕ) → length (passing f n) ≤ n
passing-few f zero = omega (arith, passing-zero f)
passing-few f (suc n) = omega (arith, passing-few f n, passing-count f n, few (f n))
  where
    few : (r : Bool) → bool_byte r ≤ 1
    few true = omega arith
    few false = omega arith
