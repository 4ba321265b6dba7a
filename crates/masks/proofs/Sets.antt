-- Sets of workers. In order: the empty set; a union; one worker more; one worker less; the workers below
-- one; the lowest of a set; two sets with none in common.
use mathlib.Core.Logic.{◌⊎◌, inl, inr, ◌↔◌, ◌≢◌}
use mathlib.Core.Path.{◌≡◌, refl, sym, ◌∙◌}
use native.Mathlib.Nat.{mod-eq_of_lt, one-mul}
use native.Mathlib.Omega.{arith}
use Prim.Native.Nat.{ℕ, zero, suc, ◌-◌, ◌*◌, ◌/◌, ◌%◌, ◌^◌, ◌≤◌, ◌<◌, min}
use lib.Bits.{bit_and, bit_or, bit_xor, differ, xor_add_and, and_le_l}
use lib.Count.{count_trailing_zeros}
use lib.Pow.{pow-lt, pow_mono, pow_pos}
use Rattle.basics.proofs.Bits.{mask-bit, and-bit, or-bit, xor-bit, bit-same, bit-other, bit-none, ones_bit, ones-past}
use Rattle.basics.proofs.Bits.{trailing_odd, trailing-few, trailing-first}
use Rattle.basics.proofs.Booleans.{equal?, less?}
use Rattle.masks.specs.Masks.{◌is_in◌, Below, Lowest, With, Without, Apart}

-- ---- the empty set

pub in-none : {r : ℕ} → r is_in 0 → ⊥
in-none {r} h = omega (arith, h.bit, bit-none r)

-- ---- a union

module _ (x y : ℕ) {r : ℕ} where
  pub in_either : r is_in bit_or x y → (r is_in x) ⊎ (r is_in y)
  in_either h = go (equal? (x / 2 ^ r % 2) 1)
    where
      go : (x / 2 ^ r % 2 ≡ 1) ⊎ (x / 2 ^ r % 2 ≢ 1) → (r is_in x) ⊎ (r is_in y)
      go (inl e) = inl (record { bit = e })
      go (inr n) =
          let z : x / 2 ^ r % 2 ≡ 0 = omega (arith, n) in
          inr (record { bit = omega (arith, z, h.bit, or-bit x y r) })

  pub in_left : r is_in x → r is_in bit_or x y
  in_left h = record { bit = omega (arith, h.bit, or-bit x y r) }

  pub in_right : r is_in y → r is_in bit_or x y
  in_right h = record { bit = omega (arith, h.bit, or-bit x y r) }

-- ---- one worker more

in-own : (q : ℕ) → q is_in 2 ^ q
in-own q = record { bit = bit-same q }

only-own : {q r : ℕ} → r is_in 2 ^ q → r ≡ q
only-own {q} {r} h = elim (equal? r q) [
  | inl e ↦ e
  | inr n ↦ absurd (omega (arith, h.bit, bit-other q r (λ z. n (sym z))))
]

-- 1 << q
one_bit : (q : ℕ) → q < 16 → (1 * 2 ^ q) % 65536 ≡ 2 ^ q
one_bit q h = rw one-mul (mod-eq_of_lt (pow-lt h))

pub with-one : (m q : ℕ) → q < 16 → With m q (bit_or m ((1 * 2 ^ q) % 65536))
with-one m q h = rw (one_bit q h) (record { each = λ r. (forth r, back r) })
  where
    forth : (r : ℕ) → r is_in bit_or m (2 ^ q) → (r is_in m) ⊎ (r ≡ q)
    forth r i = elim (in_either m (2 ^ q) i) [ inl j ↦ inl j | inr j ↦ inr (only-own j) ]

    back : (r : ℕ) → (r is_in m) ⊎ (r ≡ q) → r is_in bit_or m (2 ^ q)
    back r (inl j) = in_left m (2 ^ q) j
    back r (inr e) = rw e (in_right m (2 ^ q) (in-own q))

-- ---- one worker less

differ-zero : (x : ℕ) → differ x 0 ≡ x
differ-zero zero = refl
differ-zero (suc x) = refl

pub without-one : (m q : ℕ) → q < 16 → q is_in m → Without m q (bit_xor m ((1 * 2 ^ q) % 65536))
without-one m q h i = rw (one_bit q h) (record { each = λ r. (forth r, back r); less = less })
  where
    other : (r : ℕ) → r ≢ q → bit_xor m (2 ^ q) / 2 ^ r % 2 ≡ m / 2 ^ r % 2
    other r n = xor-bit m (2 ^ q) r ∙ rw (bit-other q r (λ z. n (sym z)), differ-zero)

    forth : (r : ℕ) → r is_in bit_xor m (2 ^ q) → (r is_in m) × (r ≢ q)
    forth r j = go (equal? r q)
      where
        go : (r ≡ q) ⊎ (r ≢ q) → (r is_in m) × (r ≢ q)
        go (inl e) =
            let b : bit_xor m (2 ^ q) / 2 ^ q % 2 ≡ 0 = xor-bit m (2 ^ q) q ∙ rw (i.bit, bit-same q) in
            absurd (omega (arith, b, rw e at j.bit))
        go (inr n) = (record { bit = sym (other r n) ∙ j.bit }, n)

    back : (r : ℕ) → (r is_in m) × (r ≢ q) → r is_in bit_xor m (2 ^ q)
    back r (j, n) = record { bit = other r n ∙ j.bit }

    mask : bit_and m (2 ^ q) ≡ 2 ^ q
    mask = mask-bit m q ∙ rw (i.bit, one-mul)

    less : bit_xor m (2 ^ q) < m
    less = omega (arith, xor_add_and m (2 ^ q), mask, pow_pos q)

-- ---- the workers below one

shift-few : (q : ℕ) → q ≤ 16 → 2 ^ q < 4294967296
shift-few q h = pow-lt {i = q} {j = 32} (omega arith)

-- (1 << q) - 1 fits
pub shifted : (q : ℕ) → q ≤ 16 → (1 ≤ (1 * 2 ^ q) % 4294967296) × ((1 * 2 ^ q) % 4294967296 ≤ 65536)
shifted q h = rw (one-mul, mod-eq_of_lt (shift-few q h)) (omega (arith, pow_pos q), pow_mono {i = q} {j = 16} h)

pub below-ones : (q : ℕ) → q ≤ 16 → Below q ((1 * 2 ^ q) % 4294967296 - 1)
below-ones q h = rw (one-mul, mod-eq_of_lt (shift-few q h)) (record { all = all; only = only })
  where
    all : (r : ℕ) → r < q → r is_in 2 ^ q - 1
    all r l = record { bit = ones_bit q r l }

    only : (r : ℕ) → r is_in 2 ^ q - 1 → r < q
    only r i = elim (less? r q) [ inl l ↦ l | inr l ↦ absurd (omega (arith, i.bit, ones-past q r l)) ]

-- ---- the lowest

pub lowest-in : (m : ℕ) → 0 < m → m < 65536 → Lowest m (count_trailing_zeros 16 m)
lowest-in m h k =
    record {
      few = trailing-few 16 m h k;
      here = record { bit = trailing_odd 16 m h k };
      first = λ r l i. omega (arith, trailing-first 16 m r l, i.bit);
    }

-- ---- none in common

pub and-apart : (x y : ℕ) → x < 65536 → (bit_and x y ≡ 0) ↔ Apart x y
and-apart x y few = (λ e. record { none = none e }, back)
  where
    none : bit_and x y ≡ 0 → (r : ℕ) → r is_in x → r is_in y → ⊥
    none e r i j =
        let z : bit_and x y / 2 ^ r % 2 ≡ 0 = rw e (bit-none r) in
        omega (arith, z, and-bit x y r, i.bit, j.bit)

    back : Apart x y → bit_and x y ≡ 0
    back a = elim (less? 0 (bit_and x y)) [ inl l ↦ absurd (go l) | inr l ↦ omega (arith, l) ]
      where
        go : 0 < bit_and x y → ⊥
        go l =
            let low = lowest-in (bit_and x y) l (omega (arith, and_le_l x y, few)) in
            let r = count_trailing_zeros 16 (bit_and x y) in
            let both : min (x / 2 ^ r % 2) (y / 2 ^ r % 2) ≡ 1 = sym (and-bit x y r) ∙ low.here.bit in
            a.none r (record { bit = omega (arith, both) }) (record { bit = omega (arith, both) })
