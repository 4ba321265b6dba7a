-- The bits of the sets. In order: a store elsewhere; an operation more; an operation less.
use mathlib.Core.Bool.{Bool, true, false, not, ◌&&◌, ◌||◌}
use mathlib.Core.Logic.{inl, inr, ◌≢◌}
use mathlib.Core.Path.{◌≡◌, refl, sym, ap, ap₂, ◌∙◌}
use native.Mathlib.Omega.{arith}
use Prim.Native.Nat.{ℕ, ◌+◌, ◌*◌, ◌/◌, ◌%◌, ◌<◌}
use lib.Dec.{eqb}
use lib.ListN.{length, get_or, set}
use lib.Seq.{get_or-set_same, get_or-set_other}
use borrow.Author.Tests.{eq-eqb, ne_eqb}
use Rattle.basics.proofs.Booleans.{equal?}
use Rattle.words.specs.Words.{is_in, With, Without}
use Rattle.unordered.specs.declared.Unordered.{Unordered}
use Rattle.unordered.specs.Kept.{held}

pub or-false : (b : Bool) → b || false ≡ b
or-false true = refl
or-false false = refl

pub and-true : (b : Bool) → b && true ≡ b
and-true true = refl
and-true false = refl

-- ---- a store elsewhere

pub held-elsewhere : (kept kept' : Unordered) (i x v b : ℕ) → kept'.sets ≡ set kept.sets i x → 32 * v + b / 32 ≢ i
    → held kept' v b ≡ held kept v b
unfolding held
held-elsewhere kept kept' i x v b e n =
    rw e (ap (λ (y : ℕ). is_in y (b % 32)) (get_or-set_other kept.sets i (32 * v + b / 32) x 0 n))

-- the low digits of two numbers with the same high ones
digits_same : (b h : ℕ) → b / 32 ≡ h / 32 → eqb (b % 32) (h % 32) ≡ eqb b h
digits_same b h e = elim (equal? b h) [
  | inl s ↦ rw s (eq-eqb (h % 32) (h % 32) refl ∙ sym (eq-eqb h h refl))
  | inr n ↦ ne_eqb (b % 32) (h % 32) (λ z. n (omega (arith, e, z))) ∙ sym (ne_eqb b h n)
]

module _ (kept kept' : Unordered) (w h x : ℕ) (inside : 32 * w + h / 32 < length kept.sets)
    (stored : kept'.sets ≡ set kept.sets (32 * w + h / 32) x)
  where
    -- the word of h
    held_word : (b : ℕ) → b / 32 ≡ h / 32 → held kept' w b ≡ is_in x (b % 32)
    unfolding held
    held_word b e = rw (stored, e, get_or-set_same kept.sets (32 * w + h / 32) x 0 inside)

    held-old : (b : ℕ) → b / 32 ≡ h / 32 → held kept w b ≡ is_in (get_or kept.sets (32 * w + h / 32) 0) (b % 32)
    unfolding held
    held-old b e = rw e

    held-apart : (b : ℕ) → b / 32 ≢ h / 32 → held kept' w b ≡ held kept w b
    held-apart b n = held-elsewhere kept kept' (32 * w + h / 32) x w b stored (λ z. n (omega (arith, z)))

    -- ---- an operation more

    pub held_with : With (get_or kept.sets (32 * w + h / 32) 0) (h % 32) x → (b : ℕ)
        → held kept' w b ≡ held kept w b || eqb b h
    held_with s b = elim (equal? (b / 32) (h / 32)) [
      | inl e ↦
          held_word b e ∙ s.each (b % 32) ∙ ap₂ (λ (y z : Bool). y || z) (sym (held-old b e)) (digits_same b h e)
      | inr n ↦ rw (ne_eqb b h (λ z. n (omega (arith, z))), or-false) (held-apart b n)
    ]

    -- ---- an operation less

    pub held-without : Without (get_or kept.sets (32 * w + h / 32) 0) (h % 32) x → (b : ℕ)
        → held kept' w b ≡ held kept w b && not (eqb b h)
    held-without s b = elim (equal? (b / 32) (h / 32)) [
      | inl e ↦
          held_word b e ∙ s.each (b % 32)
          ∙ ap₂ (λ (y z : Bool). y && not z) (sym (held-old b e)) (digits_same b h e)
      | inr n ↦ rw (ne_eqb b h (λ z. n (omega (arith, z))), and-true) (held-apart b n)
    ]
