-- Laws of membership. In order: the test `mem`; the tests of all and of some; `◌⊆◌`; one operation more; a list that is
-- split; renumbered operations. Not here: membership in `◌++◌` and in `map`, which is the library's
-- (`Memᴰ.append_left`, `Memᴰ.append_right`, `List.Memᴰ·append-cases`, `Memᴰ·map`, `Memᴰ.of_map` of mathlib.Core.List).
use mathlib.Core.Path.{◌≡◌, refl, sym, ap, subst}
use mathlib.Core.Bool.{Bool, not}
use mathlib.Core.List.Memᴰ
use mathlib.Core.List.{List, [], ◌∷◌, ◌++◌}
use mathlib.Core.List.{map}
use mathlib.Core.Logic.{◌⊎◌, inl, inr, ◌↔◌, ◌≢◌}
use Prim.Native.Nat.{ℕ}
use lib.Dec.{T, eqb, eqb→eq, eqb_refl, T_not}
use Rattle.basics.specs.Membership.{◌∈◌, ◌∉◌, ◌⊆◌, SameOperations, Different, empty, fresh, mem, all_of, any_of}
use Rattle.basics.proofs.Booleans.{booleans, and_left, and_right, and_intro, or_cases, or_left, or_right, decide}

pub here : {x : ℕ} {l : List ℕ} → x ∈ x ∷ l
here = Memᴰ.head refl

pub there : {x y : ℕ} {l : List ℕ} → x ∈ l → x ∈ y ∷ l
there m = Memᴰ.tail m

-- ---- the test

mem-in : (x : ℕ) (l : List ℕ) → T (mem x l) → x ∈ l
mem-in x [] h = absurd h
mem-in x (y ∷ l) h = go (or_cases (eqb x y) (mem x l) h) (mem-in x l)
  where
    go : T (eqb x y) ⊎ T (mem x l) → (T (mem x l) → x ∈ l) → x ∈ y ∷ l
    go (inl e) f = Memᴰ.head (eqb→eq x y e)
    go (inr m) f = there (f m)

in_mem : {x : ℕ} {l : List ℕ} → x ∈ l → T (mem x l)
in_mem {x} (Memᴰ.head {x = y} e) = let h : T (eqb x y) = rw e (eqb_refl y) in search booleans
in_mem (Memᴰ.tail m) = let h = in_mem m in search booleans

pub mem-test : (x : ℕ) (l : List ℕ) → T (mem x l) ↔ (x ∈ l)
mem-test x l = (mem-in x l, λ m. in_mem m)

-- of a written number and a written list, `tt` shows it
pub lacks : (x : ℕ) (l : List ℕ) → T (not (mem x l)) → x ∉ l
lacks x l h m = T_not (mem x l) h (in_mem m)

pub in? : (x : ℕ) (l : List ℕ) → (x ∈ l) ⊎ (x ∉ l)
in? x l = elim (decide (mem x l)) [ inl h ↦ inl (mem-in x l h) | inr h ↦ inr (lacks x l h) ]

pub in-by-contradiction : (x : ℕ) (l : List ℕ) → (x ∉ l → ⊥) → x ∈ l
in-by-contradiction x l f = elim (in? x l) [ inl m ↦ m | inr n ↦ absurd (f n) ]

-- ---- the tests of all and of some

module _ (p : ℕ → Bool) where
  all_in : (l : List ℕ) → T (all_of p l) → (x : ℕ) → x ∈ l → T (p x)
  all_in [] h x x4 = elim x4 [ ]
  all_in (y ∷ l) h x (Memᴰ.head e) = rw e (and_left (p y) (all_of p l) h)
  all_in (y ∷ l) h x (Memᴰ.tail m) = all_in l (and_right (p y) (all_of p l) h) x m

  all_from : (l : List ℕ) → ((x : ℕ) → x ∈ l → T (p x)) → T (all_of p l)
  all_from [] f = tt
  all_from (y ∷ l) f = and_intro (p y) (all_of p l) (f y here) (all_from l (λ x m. f x (there m)))

  pub all-test : (l : List ℕ) → T (all_of p l) ↔ ((x : ℕ) → x ∈ l → T (p x))
  all-test l = (all_in l, all_from l)

  any-in : (l : List ℕ) → T (any_of p l) → (x : ℕ) × (x ∈ l) × T (p x)
  any-in [] h = absurd h
  any-in (y ∷ l) h = go (or_cases (p y) (any_of p l) h) (any-in l)
    where
      go : T (p y) ⊎ T (any_of p l) → (T (any_of p l) → (x : ℕ) × (x ∈ l) × T (p x)) → (x : ℕ) × (x ∈ y ∷ l) × T (p x)
      go (inl k) f = (y, here, k)
      go (inr k) f = let t = f k in (t.0, there t.1, t.2)

  any-from : (l : List ℕ) (x : ℕ) → x ∈ l → T (p x) → T (any_of p l)
  any-from [] x x4 h = elim x4 [ ]
  any-from (y ∷ l) x (Memᴰ.head e) h = or_left (p y) (any_of p l) (rw e at h)
  any-from (y ∷ l) x (Memᴰ.tail m) h = or_right (p y) (any_of p l) (any-from l x m h)

  pub any-test : (l : List ℕ) → T (any_of p l) ↔ ((x : ℕ) × (x ∈ l) × T (p x))
  any-test l = (any-in l, λ t. any-from l t.0 t.1 t.2)

-- ---- subsets

pub ⊆-refl : {d : List ℕ} → d ⊆ d
⊆-refl = record { all = λ m. m }

pub ⊆-nil : {e : List ℕ} → [] ⊆ e
⊆-nil = record { all = λ m. elim m [ ] }

pub ⊆-trans : {c d e : List ℕ} → c ⊆ d → d ⊆ e → c ⊆ e
⊆-trans s t = record { all = λ m. t.all (s.all m) }

pub ⊆-grow : {d : List ℕ} {x : ℕ} → d ⊆ x ∷ d
⊆-grow = record { all = λ m. there m }

pub ⊆-cons : {d e : List ℕ} {x : ℕ} → d ⊆ e → x ∈ e → x ∷ d ⊆ e
⊆-cons {d} {e} {x} s h = record { all = λ m. go m }
  where
    go : {y : ℕ} → y ∈ x ∷ d → y ∈ e
    go (Memᴰ.head p) = rw p h
    go (Memᴰ.tail m) = s.all m

-- ---- one operation more

-- at the front of the one, at the end of the other
pub same-snoc : {d u : List ℕ} {x : ℕ} → SameOperations d u → SameOperations (x ∷ d) (u ++ x ∷ [])
same-snoc {d} {u} {x} e =
    record { forth = ⊆-cons left (Memᴰ.append_right u here); back = record { all = λ m. back m } }
  where
    left : d ⊆ u ++ x ∷ []
    left = record { all = λ m. Memᴰ.append_left (x ∷ []) (e.forth.all m) }

    back : {y : ℕ} → y ∈ u ++ x ∷ [] → y ∈ x ∷ d
    back m = elim (Memᴰ.append_cases u m) [ inl h ↦ there (e.back.all h) | inr h ↦ last h ]
      where
        last : {y : ℕ} → y ∈ x ∷ [] → y ∈ x ∷ d
        last h = Memᴰ.head (Memᴰ.eq_of_singleton h)

-- an operation that is neither in u nor x is not in u with x at its end
pub lacks-snoc : {a x : ℕ} {u : List ℕ} → a ∉ u → x ≢ a → a ∉ u ++ x ∷ []
lacks-snoc {a} {x} {u} n d m = elim (Memᴰ.append_cases u m) [ inl h ↦ n h | inr h ↦ d (last h) ]
  where
    last : a ∈ x ∷ [] → x ≡ a
    last h = rw (Memᴰ.eq_of_singleton h)

-- ---- a list of different operations that is split

pub different-apart : (u v : List ℕ) (x : ℕ) → Different (u ++ x ∷ v) → x ∉ u
different-apart [] v x d = λ m. elim m [ ]
different-apart (y ∷ u) v x (fresh n d) = λ m. go m (different-apart u v x d)
  where
    go : x ∈ y ∷ u → x ∉ u → ⊥
    go (Memᴰ.head e) f = n (rw (← e) (Memᴰ.append_right u here))
    go (Memᴰ.tail m) f = f m

pub in_split : {x : ℕ} {l : List ℕ} → x ∈ l → (u v : List ℕ) × (l ≡ u ++ x ∷ v)
in_split (Memᴰ.head {xs = l} e) = ([], l, rw e)
in_split (Memᴰ.tail {x = y} m) = let t = in_split m in (y ∷ t.0, t.1, ap (λ (r : List ℕ). y ∷ r) t.2)

-- in the second part, if not in the first
pub in_rest : {x : ℕ} (r : List ℕ) {s : List ℕ} → x ∈ r ++ s → x ∉ r → x ∈ s
in_rest r m n = elim (Memᴰ.append_cases r m) [ inl h ↦ absurd (n h) | inr h ↦ h ]

-- ---- renumbered operations

-- what holds of each operation's new number
pub map_each : (f : ℕ → ℕ) {l : List ℕ} (P : ℕ → Type 0) → ((x : ℕ) → x ∈ l → P (f x))
    → {y : ℕ} → y ∈ map f l → P y
map_each f {l} P g m = let (x, i, e) = Memᴰ.of_map f l m in subst P e (g x i)

-- different operations that get different numbers
pub different-map : (f : ℕ → ℕ) {l : List ℕ} → Different l → ((x y : ℕ) → x ∈ l → y ∈ l → f x ≡ f y → x ≡ y)
    → Different (map f l)
different-map f empty g = empty
different-map f (fresh {x = x} {l = l} n d) g = fresh new (different-map f d (λ y z i j. g y z (there i) (there j)))
  where
    new : f x ∉ map f l
    new m = let (y, i, e) = Memᴰ.of_map f l m in n (rw (g x y here (there i) (sym e)) i)
