-- The pigeonhole principle, and the lengths that follow from it. In order: counting; different operations that
-- stand in a list are no more than its places; different operations below a number.
use mathlib.Core.Path.{◌≡◌, refl, sym, ap, ◌∙◌}
use mathlib.Core.Bool.{Bool, true, false, cond}
use mathlib.Core.List.Memᴰ
use mathlib.Core.List.{List, [], ◌∷◌}
use mathlib.Core.Logic.{◌⊎◌, inl, inr, ◌≢◌}
use Prim.Native.Nat.{ℕ, zero, suc, ◌≤◌, ◌<◌}
use native.Mathlib.Nat.{not-suc-le-zero}
use native.Mathlib.Omega.{arith}
use lib.Dec.{T, eqb, eqb→eq, eqb_refl}
use lib.ListN.{length}
use Rattle.basics.specs.Membership.{◌∈◌, ◌⊆◌, Different, empty, fresh, up_to, count_if}
use Rattle.basics.proofs.Booleans.{equal?}
use Rattle.basics.proofs.Members.{here, there}

-- ---- counting

abbrev one_more_if : Bool → ℕ → ℕ
one_more_if b k = cond b (suc k) k

pub count_if-yes : (p : ℕ → Bool) (x : ℕ) (l : List ℕ) → T (p x) → count_if p (x ∷ l) ≡ suc (count_if p l)
count_if-yes p x l h = go (p x) h
  where
    go : (b : Bool) → T b → one_more_if b (count_if p l) ≡ suc (count_if p l)
    go true t = refl
    go false t = absurd t

pub count_if-no : (p : ℕ → Bool) (x : ℕ) (l : List ℕ) → (T (p x) → ⊥) → count_if p (x ∷ l) ≡ count_if p l
count_if-no p x l h = go (p x) h
  where
    go : (b : Bool) → (T b → ⊥) → one_more_if b (count_if p l) ≡ count_if p l
    go true t = absurd (t tt)
    go false t = refl

count_if-all : (l : List ℕ) → count_if (λ x. true) l ≡ length l
count_if-all [] = refl
count_if-all (x ∷ l) = ap suc (count_if-all l)

-- ---- the pigeonhole principle

-- the list without the first x in it
remove : ℕ → List ℕ → List ℕ
remove x [] = []
remove x (y ∷ l) = cond (eqb x y) l (y ∷ remove x l)

-- that is one place less, in which x stood
remove-count : (p : ℕ → Bool) {x : ℕ} {l : List ℕ} → x ∈ l → count_if p l ≡ count_if p (x ∷ remove x l)
unfolding remove
remove-count p {x} (Memᴰ.head {x = y} {xs = l} e) = rw (← e) (go (eqb x x) (eqb_refl x))
  where
    go : (b : Bool) → T b → count_if p (x ∷ l) ≡ count_if p (x ∷ cond b l (x ∷ remove x l))
    go true t = refl
    go false t = absurd t
remove-count p {x} (Memᴰ.tail {x = y} {xs = l} m) = go (eqb x y) refl (remove-count p m)
  where
    swap : (a b : Bool) (k : ℕ) → one_more_if b (one_more_if a k) ≡ one_more_if a (one_more_if b k)
    swap true true k = refl
    swap true false k = refl
    swap false true k = refl
    swap false false k = refl

    go : (b : Bool) → eqb x y ≡ b → count_if p l ≡ count_if p (x ∷ remove x l)
        → count_if p (y ∷ l) ≡ count_if p (x ∷ cond b l (y ∷ remove x l))
    go true e h = rw (eqb→eq x y (rw e tt)) refl
    go false e h = rw h (swap (p x) (p y) (count_if p (remove x l)))

remove-keeps : {x z : ℕ} {l : List ℕ} → z ≢ x → z ∈ l → z ∈ remove x l
unfolding remove
remove-keeps {x} {z} d (Memᴰ.head {x = y} {xs = l} e) = go (eqb x y) refl
  where
    go : (b : Bool) → eqb x y ≡ b → z ∈ cond b l (y ∷ remove x l)
    go true q = absurd (d (e ∙ sym (eqb→eq x y (rw q tt))))
    go false q = Memᴰ.head e
remove-keeps {x} {z} d (Memᴰ.tail {x = y} {xs = l} m) = go (eqb x y) (remove-keeps d m)
  where
    go : (b : Bool) → z ∈ remove x l → z ∈ cond b l (y ∷ remove x l)
    go true h = m
    go false h = there h

-- different operations that stand in l are no more than l has places, of whichever kind
pub different-count : (p : ℕ → Bool) {s l : List ℕ} → Different s → s ⊆ l → count_if p s ≤ count_if p l
different-count p empty h = omega arith
different-count p {l = l} (fresh {x = x} {l = s} n d) h =
    rw (remove-count p (h.all here)) (go (p x) (different-count p d rest))
  where
    apart : {z : ℕ} → z ∈ s → z ≢ x
    apart m e = n (rw e at m)

    rest : s ⊆ remove x l
    rest = record { all = λ m. remove-keeps (apart m) (h.all (there m)) }

    go : (b : Bool) {i j : ℕ} → i ≤ j → one_more_if b i ≤ one_more_if b j
    go true k = omega arith
    go false k = k

pub different-length : {s l : List ℕ} → Different s → s ⊆ l → length s ≤ length l
different-length {s} {l} d h = omega (arith, different-count (λ x. true) d h, count_if-all s, count_if-all l)

-- ---- different operations below a number

up_to-length : (n : ℕ) → length (up_to n) ≡ n
up_to-length zero = refl
up_to-length (suc n) = rw (up_to-length n) refl

pub up_to-below : (n : ℕ) {x : ℕ} → x ∈ up_to n → x < n
up_to-below zero m = elim m [ ]
up_to-below (suc n) (Memᴰ.head e) = omega arith
up_to-below (suc n) (Memᴰ.tail m) = omega (arith, up_to-below n m)

pub up_to-in : (n : ℕ) {x : ℕ} → x < n → x ∈ up_to n
up_to-in zero h = absurd (not-suc-le-zero h)
up_to-in (suc n) {x} h = go (equal? x n) (up_to-in n)
  where
    go : (x ≡ n) ⊎ (x ≢ n) → (x < n → x ∈ up_to n) → x ∈ n ∷ up_to n
    go (inl e) f = Memᴰ.head e
    go (inr d) f = there (f (omega (arith, d)))

up_to-different : (n : ℕ) → Different (up_to n)
up_to-different zero = empty
up_to-different (suc n) = fresh (λ m. below-itself (up_to-below n m)) (up_to-different n)
  where
    below-itself : n < n → ⊥
    below-itself h = omega arith

-- different operations below n are at most n
pub below_length : {n : ℕ} {s : List ℕ} → ((x : ℕ) → x ∈ s → x < n) → Different s → length s ≤ n
below_length {n} b d = omega (arith, different-length d (record { all = λ {x} m. up_to-in n (b x m) }), up_to-length n)

-- a list that holds every operation below n has at least n places
pub holds-length : {n : ℕ} {s : List ℕ} → ((x : ℕ) → x < n → x ∈ s) → n ≤ length s
holds-length {n} {s} h = omega (arith, different-length (up_to-different n) all, up_to-length n)
  where
    all : up_to n ⊆ s
    all = record { all = λ {x} m. h x (up_to-below n m) }
