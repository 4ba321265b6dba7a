-- The index of a first appearance. In order: at a list's head; in a list of two parts; whether it appears;
-- a list that is cut there; a search.
use mathlib.Core.List.Memᴰ
use mathlib.Core.List.{List, [], ◌∷◌, ◌++◌, append-nil}
use mathlib.Core.Logic.{◌⊎◌, inl, inr, ◌↔◌, ◌≢◌}
use mathlib.Core.Path.{◌≡◌, refl, sym, ◌∙◌, ap}
use native.Mathlib.Omega.{arith}
use Prim.Native.Nat.{ℕ, zero, suc, ◌+◌, ◌<◌, ◌≤◌}
use lib.ListN.{length, drop, get_or, length-append}
use lib.Seq.{drop-cons}
use borrow.Author.Tests.{eq-eqb, ne_eqb}
use Rattle.basics.specs.Membership.{◌∈◌, ◌∉◌}
use Rattle.basics.proofs.Booleans.{equal?}
use Rattle.basics.proofs.Members.{there, in?}
use Rattle.beginning.specs.Computed.{first_index}

-- ---- at the head

module _ {y x : ℕ} (l : List ℕ) where
  index-head : y ≡ x → first_index (y ∷ l) x ≡ 0
  unfolding first_index
  index-head e = rw (eq-eqb y x e)

  index-tail : y ≢ x → first_index (y ∷ l) x ≡ suc (first_index l x)
  unfolding first_index
  index-tail n = rw (ne_eqb y x n)

-- ---- in a list of two parts

module _ {x : ℕ} (v : List ℕ) where
  index_in : {u : List ℕ} → x ∈ u → first_index (u ++ v) x < length u
  index_in (Memᴰ.head {x = y} {xs = l} e) = omega (arith, index-head (l ++ v) (sym e))
  index_in (Memᴰ.tail {x = y} {xs = l} m) = go (equal? y x) (index_in m)
    where
      go : (y ≡ x) ⊎ (y ≢ x) → first_index (l ++ v) x < length l → first_index ((y ∷ l) ++ v) x < suc (length l)
      go (inl e) h = omega (arith, index-head (l ++ v) e)
      go (inr n) h = omega (arith, index-tail (l ++ v) n)

  index-past : (u : List ℕ) → x ∉ u → first_index (u ++ v) x ≡ length u + first_index v x
  index-past [] n = omega arith
  index-past (y ∷ l) n =
      let tail = index-tail (l ++ v) (λ e. n (Memᴰ.head (sym e))) in
      omega (arith, tail, index-past l (λ m. n (there m)))

-- ---- whether it appears

pub index-appears : (x : ℕ) (l : List ℕ) → (first_index l x < length l) ↔ (x ∈ l)
index-appears x l = (λ h. go h (in? x l), λ m. rw append-nil at (index_in [] m))
  where
    go : first_index l x < length l → (x ∈ l) ⊎ (x ∉ l) → x ∈ l
    go h (inl m) = m
    go h (inr n) = absurd (omega (arith, rw append-nil at (index-past [] l n)))

-- ---- a list that is cut at the first appearance of x

pub record CutAtFirst (x : ℕ) (list : List ℕ) : Type 0 where
  pub before : List ℕ
  pub rest : List ℕ
  pub split : list ≡ before ++ (x ∷ rest)
  pub fresh : x ∉ before

pub cut-at-first : {x : ℕ} {l : List ℕ} → x ∈ l → CutAtFirst x l
cut-at-first (Memᴰ.head {xs = l} e) = record { before = []; rest = l; split = rw e; fresh = Memᴰ.not-nil }
cut-at-first {x} (Memᴰ.tail {x = y} {xs = l} m) = go (equal? x y) (cut-at-first m)
  where
    go : (x ≡ y) ⊎ (x ≢ y) → CutAtFirst x l → CutAtFirst x (y ∷ l)
    go (inl e) k = record { before = []; rest = l; split = rw e; fresh = Memᴰ.not-nil }
    go (inr n) k = record { before = y ∷ k.before; rest = k.rest; split = ap (◌∷◌ y) k.split; fresh = λ m. new m }
      where
        new : x ∉ y ∷ k.before
        new (Memᴰ.head e) = n e
        new (Memᴰ.tail i) = k.fresh i

module _ {x : ℕ} {list : List ℕ} (k : CutAtFirst x list) where
  pub cut-length : length list ≡ length k.before + suc (length k.rest)
  cut-length = ap length k.split ∙ length-append k.before (x ∷ k.rest)

  index-split : (y : ℕ) → first_index list y ≡ first_index (k.before ++ (x ∷ k.rest)) y
  index-split y = ap (λ (l : List ℕ). first_index l y) k.split

  pub index-cut : first_index list x ≡ length k.before
  index-cut =
      let head : first_index (x ∷ k.rest) x ≡ 0 = index-head k.rest refl in
      omega (arith, head, index-split x, index-past (x ∷ k.rest) k.before k.fresh)

  -- another number, before the cut or not
  pub index-before : {y : ℕ} → y ∈ k.before → first_index list y < length k.before
  index-before {y} m = omega (arith, index-split y, index_in (x ∷ k.rest) m)

  pub index-behind : {y : ℕ} → y ∉ k.before → x ≢ y
      → first_index list y ≡ length k.before + suc (first_index k.rest y)
  index-behind {y} n d = omega (arith, index-split y, index-past (x ∷ k.rest) k.before n, index-tail k.rest d)

-- ---- a search: x does not appear in the first i numbers

pub index-fits : (list : List ℕ) (x : ℕ) → first_index list x ≤ length list
unfolding first_index
index-fits [] x = omega arith
index-fits (y ∷ l) x = go (equal? y x) (index-fits l x)
  where
    go : (y ≡ x) ⊎ (y ≢ x) → first_index l x ≤ length l → first_index (y ∷ l) x ≤ suc (length l)
    go (inl e) h = omega (arith, index-head l e)
    go (inr n) h = omega (arith, index-tail l n)

-- what is left to search
index-left : (list : List ℕ) (x i : ℕ) → i ≤ first_index list x → first_index list x ≡ i + first_index (drop i list) x
unfolding first_index
index-left list x zero s = omega arith
index-left [] x (suc i) s = absurd (omega arith)
index-left (y ∷ l) x (suc i) s = go (equal? y x) (index-left l x i)
  where
    go : (y ≡ x) ⊎ (y ≢ x) → (i ≤ first_index l x → first_index l x ≡ i + first_index (drop i l) x)
        → first_index (y ∷ l) x ≡ suc i + first_index (drop i l) x
    go (inl e) h = absurd (omega (arith, index-head l e))
    go (inr n) h = let tail = index-tail l n in omega (arith, tail, h (omega arith))

module _ (list : List ℕ) (x i : ℕ) (s : i ≤ first_index list x) where
  pub index-later : i < length list → get_or list i 0 ≢ x → i + 1 ≤ first_index list x
  index-later l n = omega (arith, index-left list x i s, step)
    where
      step : first_index (drop i list) x ≡ suc (first_index (drop (suc i) list) x)
      step = rw (drop-cons list i 0 l) (index-tail (drop (suc i) list) n)

  pub index-here : i < length list → get_or list i 0 ≡ x → i ≡ first_index list x
  index-here l e = omega (arith, index-left list x i s, at_head)
    where
      at_head : first_index (drop i list) x ≡ 0
      at_head = rw (drop-cons list i 0 l) (index-head (drop (suc i) list) e)

  pub index-none : length list ≤ i → i ≡ first_index list x
  index-none l = omega (arith, index-fits list x)
