-- Tests of what is done that stay true as more is done, and how they are put together. A rule whose `may` is such a
-- test at each operation is monotone.
use mathlib.Core.Bool.{Bool, true, false, not, ◌&&◌, ◌||◌}
use mathlib.Core.List.{List, [], ◌∷◌}
use mathlib.Core.Logic.{inl, inr}
use Prim.Native.Nat.{ℕ}
use lib.Dec.{T, eqb}
use Rattle.basics.specs.Membership.{◌⊆◌, mem, all_of, any_of, up_to}
use Rattle.basics.proofs.Booleans.{booleans, or_cases}
use Rattle.basics.proofs.Members.{mem-test, any-test}
use Rattle.runs.specs.Rule.{Rule, Monotone}
use Rattle.runs.specs.Workers.{turn}

pub record Grows (f : List ℕ → Bool) : Type 0 where
  pub keeps : (d e : List ℕ) → d ⊆ e → T (f d) → T (f e)

pub grows-rule : (R : Rule) → ((x : ℕ) → Grows (λ d. R.may d x)) → Monotone R
grows-rule R g = record { keeps = λ {d} {e} x s h. (g x).keeps d e s h }

-- a test that does not look at what is done
pub grows-fixed : (b : Bool) → Grows (λ d. b)
grows-fixed b = record { keeps = λ d e s h. h }

pub grows-mem : (y : ℕ) → Grows (mem y)
grows-mem y = record { keeps = λ d e s h. (mem-test y e).1 (s.all ((mem-test y d).0 h)) }

pub grows-and : {f g : List ℕ → Bool} → Grows f → Grows g → Grows (λ d. f d && g d)
grows-and {f} {g} p q = record { keeps = keeps }
  where
    keeps : (d e : List ℕ) → d ⊆ e → T (f d && g d) → T (f e && g e)
    keeps d e s h =
        let i = p.keeps d e s in
        let j = q.keeps d e s in
        search booleans

pub grows-or : {f g : List ℕ → Bool} → Grows f → Grows g → Grows (λ d. f d || g d)
grows-or {f} {g} p q = record { keeps = keeps }
  where
    keeps : (d e : List ℕ) → d ⊆ e → T (f d || g d) → T (f e || g e)
    keeps d e s h =
        let i = p.keeps d e s in
        let j = q.keeps d e s in
        elim (or_cases (f d) (g d) h) [ inl k ↦ search booleans | inr k ↦ search booleans ]

-- such a test of every operation of a list, and of some
pub grows_all : {f : List ℕ → ℕ → Bool} → ((x : ℕ) → Grows (λ d. f d x)) → (l : List ℕ) → Grows (λ d. all_of (f d) l)
grows_all g [] = grows-fixed true
grows_all g (x ∷ l) = grows-and (g x) (grows_all g l)

pub grows-any : {f : List ℕ → ℕ → Bool} → ((x : ℕ) → Grows (λ d. f d x)) → (l : List ℕ) → Grows (λ d. any_of (f d) l)
grows-any g [] = grows-fixed false
grows-any g (x ∷ l) = grows-or (g x) (grows-any g l)

-- a fixed test of some operation that is done
pub grows-done : (p : ℕ → Bool) → Grows (any_of p)
grows-done p = record { keeps = keeps }
  where
    keeps : (d e : List ℕ) → d ⊆ e → T (any_of p d) → T (any_of p e)
    keeps d e s h = let t = (any-test p d).0 h in (any-test p e).1 (t.0, s.all t.1, t.2)

-- program order
pub grows-turn : (worker : ℕ → ℕ) (x : ℕ) → Grows (λ d. turn worker d x)
grows-turn worker x =
    grows_all (λ y. grows-or (grows-fixed (not (eqb (worker y) (worker x)))) (grows-mem y)) (up_to x)
