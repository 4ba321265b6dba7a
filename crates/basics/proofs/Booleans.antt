-- Laws of the Boolean tests: into and out of `&&`, `||` and `not`; tests of two numbers as cases.
-- A test is explicit in each law: `T` computes, so nothing shows which test it was.
use mathlib.Core.Bool.{Bool, true, false, not, ◌&&◌, ◌||◌}
use mathlib.Core.Logic.{◌⊎◌, inl, inr, ◌↔◌, ◌≢◌}
use mathlib.Core.Path.{◌≡◌, refl, sym}
use Prim.Native.Nat.{ℕ, ◌<◌, ◌≤◌}
use native.Mathlib.Omega.{arith}
use lib.Dec.{T, eqb, eqb→eq, eqb_refl, ltb, ltb→lt, nltb→le, T_not}

pub and_left : (a b : Bool) → T (a && b) → T a
and_left true b h = tt
and_left false b h = h

pub and_right : (a b : Bool) → T (a && b) → T b
and_right true b h = h
and_right false b h = absurd h

pub and_intro : (a b : Bool) → T a → T b → T (a && b)
and_intro true b p q = q
and_intro false b p q = p

pub or_cases : (a b : Bool) → T (a || b) → T a ⊎ T b
or_cases true b h = inl tt
or_cases false b h = inr h

pub or_left : (a b : Bool) → T a → T (a || b)
or_left true b h = tt
or_left false b h = absurd h

pub or_right : (a b : Bool) → T b → T (a || b)
or_right true b h = tt
or_right false b h = h

pub decide : (b : Bool) → T b ⊎ T (not b)
decide true = inl tt
decide false = inr tt

-- a test as an equation
pub test-true : (b : Bool) → (b ≡ true) ↔ T b
test-true b = (λ e. rw e tt, go b)
  where
    go : (b : Bool) → T b → b ≡ true
    go true h = refl
    go false h = absurd h

-- what it means that two tests pass, and that one of them does not, by what it means of each
pub both-pass : {X Y : Type 0} (a b : Bool) → (a ≡ true) ↔ X → (b ≡ true) ↔ Y → (a && b ≡ true) ↔ (X × Y)
both-pass true b f g = (λ e. (f.0 refl, g.0 e), λ p. g.1 p.1)
both-pass false b f g = (λ e. absurd ((test-true false).0 e), λ p. f.1 p.0)

pub both_true : (a b : Bool) → a && b ≡ true → (a ≡ true) × (b ≡ true)
both_true a b = (both-pass a b (λ e. e, λ e. e) (λ e. e, λ e. e)).0

pub one-fails : {X Y : Type 0} (a b : Bool) → (a ≡ false) ↔ X → (b ≡ false) ↔ Y → (a && b ≡ false) ↔ (X ⊎ Y)
one-fails true b f g = (
  λ e. inr (g.0 e),
  λ s. elim s [ inl x ↦ absurd ((test-true false).0 (sym (f.1 x))) | inr y ↦ g.1 y ],
)
one-fails false b f g = (λ e. inl (f.0 e), λ s. refl)

pub either-passes : (a b : Bool) → (a || b ≡ true) ↔ (T a ⊎ T b)
either-passes true b = (λ e. inl tt, λ s. refl)
either-passes false b = (
  λ e. inr ((test-true b).0 e),
  λ s. elim s [ inl h ↦ absurd h | inr h ↦ (test-true b).1 h ],
)

-- and of a test turned round
pub not-passes : {X : Type 0} (a : Bool) → T a ↔ X → (not a ≡ true) ↔ (X → ⊥)
not-passes true f = (λ e x. (test-true false).0 e, λ g. absurd (g (f.0 tt)))
not-passes false f = (λ e x. f.1 x, λ g. refl)

pub not-fails : {X : Type 0} (a : Bool) → T a ↔ X → (not a ≡ false) ↔ X
not-fails true f = (λ e. f.0 tt, λ x. refl)
not-fails false f = (λ e. absurd ((test-true false).0 (sym e)), λ x. absurd (f.1 x))

-- a test that is asked only where another passes
pub if-test : (a b : Bool) → T (not a || b) ↔ (T a → T b)
if-test true b = (λ h t. h, λ f. f tt)
if-test false b = (λ h t. absurd t, λ f. tt)

-- a test that cannot pass fails
pub never-passes : (b : Bool) → (b ≡ true → ⊥) → b ≡ false
never-passes true n = absurd (n refl)
never-passes false n = refl

-- two tests that pass in the same cases are equal
pub test-equal : (a b : Bool) → (T a → T b) → (T b → T a) → a ≡ b
test-equal true true f g = refl
test-equal true false f g = absurd (f tt)
test-equal false true f g = absurd (g tt)
test-equal false false f g = refl

-- 0 is not 1: what `cc` makes of an equation between two constructors
pub zero_one : ◌≡◌ {A = ℕ} 0 1 → ⊥
zero_one e = omega arith

pub equal? : (x y : ℕ) → (x ≡ y) ⊎ (x ≢ y)
equal? x y = elim (decide (eqb x y)) [ inl h ↦ inl (eqb→eq x y h) | inr h ↦ inr (λ e. T_not (eqb x y) h (same e)) ]
  where
    same : x ≡ y → T (eqb x y)
    same e = rw e (eqb_refl y)

pub less? : (x y : ℕ) → (x < y) ⊎ (y ≤ x)
less? x y = elim (decide (ltb x y)) [ inl h ↦ inl (ltb→lt x y h) | inr h ↦ inr (nltb→le x y h) ]

-- `search booleans` goes into and out of conjunctions, and into disjunctions
pub ruleset booleans = (and_left, and_right, and_intro, or_left, or_right)
