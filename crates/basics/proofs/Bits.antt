-- The bits of a number. In order: the one of a conjunction, of a union, of a difference; those of a power of two; of a
-- row of ones; the lowest one; an array of zeros.
use mathlib.Core.Logic.{◌⊎◌, inl, inr, ◌≢◌}
use mathlib.Core.Path.{◌≡◌, refl}
use native.Mathlib.Nat.{div_self, div-eq_of_lt, mul-div_cancel, div-one, div-div-eq-div-mul, pow-succ', pow-suc}
use native.Mathlib.Omega.{arith}
use Prim.Native.Nat.{ℕ, zero, suc, ◌+◌, ◌-◌, ◌*◌, ◌/◌, ◌%◌, ◌^◌, ◌≤◌, ◌<◌, max, min}
use lib.Bits.{bit_and, bit_or, bit_xor, differ, and_high, and_shr, and_step, or_shr, or_step, xor_shr, xor_step}
use lib.Count.{count_trailing_zeros, under}
use lib.ListN.{get_or, replicate, length-replicate, get_or-replicate, get_or-eq_default}
use lib.Pow.{pow-lt, pow_mono, pow-add, pow_pos, ones_split, high, ones_lt}
use Rattle.basics.proofs.Booleans.{less?}

-- ---- of two numbers joined bit by bit

-- a number cut down to bit b
pub mask-bit : (x b : ℕ) → bit_and x (2 ^ b) ≡ (x / 2 ^ b % 2) * 2 ^ b
mask-bit x b =
    let e : 2 ^ (1 + b) - 2 ^ b ≡ 2 ^ b = omega (arith, pow-add 2 1 b) in
    rw e at (and_high x 1 b)

pub and-bit : (x y b : ℕ) → bit_and x y / 2 ^ b % 2 ≡ min (x / 2 ^ b % 2) (y / 2 ^ b % 2)
and-bit x y b = rw (and_shr x y b) (omega (arith, and_step (x / 2 ^ b) (y / 2 ^ b)))

pub or-bit : (x y b : ℕ) → bit_or x y / 2 ^ b % 2 ≡ max (x / 2 ^ b % 2) (y / 2 ^ b % 2)
or-bit x y b = rw (or_shr x y b) (omega (arith, or_step (x / 2 ^ b) (y / 2 ^ b)))

differ-few : (x y : ℕ) → x < 2 → y < 2 → differ x y < 2
differ-few zero y h k = k
differ-few (suc zero) zero h k = omega arith
differ-few (suc zero) (suc zero) h k = omega arith
differ-few (suc zero) (suc (suc y)) h k = absurd (omega arith)
differ-few (suc (suc x)) y h k = absurd (omega arith)

pub xor-bit : (x y b : ℕ) → bit_xor x y / 2 ^ b % 2 ≡ differ (x / 2 ^ b % 2) (y / 2 ^ b % 2)
xor-bit x y b =
    let few = differ-few (x / 2 ^ b % 2) (y / 2 ^ b % 2) (omega arith) (omega arith) in
    rw (xor_shr x y b) (omega (arith, xor_step (x / 2 ^ b) (y / 2 ^ b), few))

-- ---- of a power of two

pub bit-same : (b : ℕ) → 2 ^ b / 2 ^ b % 2 ≡ 1
bit-same b = rw (div_self (pow_pos b))

bit-above : (b d : ℕ) → 2 ^ (suc d + b) / 2 ^ b % 2 ≡ 0
bit-above b d =
    rw (pow-add 2 (suc d) b, mul-div_cancel (2 ^ suc d) (pow_pos b)) (omega (arith, pow-add 2 1 d))

pub bit-other : (a b : ℕ) → a ≢ b → 2 ^ a / 2 ^ b % 2 ≡ 0
bit-other a b ne = go (less? a b)
  where
    go : (a < b) ⊎ (b ≤ a) → 2 ^ a / 2 ^ b % 2 ≡ 0
    go (inl h) = rw (div-eq_of_lt (pow-lt h))
    go (inr h) =
        let e : a ≡ suc (a - (b + 1)) + b = omega (arith, ne) in
        rw e (bit-above b (a - (b + 1)))

pub bit-none : (b : ℕ) → 0 / 2 ^ b % 2 ≡ 0
bit-none b = rw (div-eq_of_lt (pow_pos b))

-- ---- of a row of ones

pub ones_bit : (p q : ℕ) → q < p → (2 ^ p - 1) / 2 ^ q % 2 ≡ 1
ones_bit p q l =
    let d = p - (q + 1) in
    let e : p ≡ suc d + q = omega arith in
    let part : (2 ^ (suc d + q) - 1) / 2 ^ q ≡ 2 ^ suc d - 1
    = rw (ones_split (suc d) q) (high (2 ^ suc d - 1) q (ones_lt q)) in
    rw (e, part) (omega (arith, pow-suc 2 d, pow_pos d))

pub ones-past : (p q : ℕ) → p ≤ q → (2 ^ p - 1) / 2 ^ q % 2 ≡ 0
ones-past p q l =
    let small : 2 ^ p - 1 < 2 ^ q = omega (arith, pow_pos p, pow_mono l) in
    rw (div-eq_of_lt small)

-- ---- the lowest one

pub trailing_odd : (d m : ℕ) → 0 < m → m < 2 ^ d → m / 2 ^ count_trailing_zeros d m % 2 ≡ 1
unfolding count_trailing_zeros
trailing_odd zero m h k = absurd (omega (arith, k))
trailing_odd (suc d) m h k =
    go (m % 2) refl (λ e. trailing_odd d (m / 2) (omega (arith, e)) (omega (arith, pow-suc 2 d)))
  where
    go : (r : ℕ) → m % 2 ≡ r → (m % 2 ≡ 0 → m / 2 / 2 ^ count_trailing_zeros d (m / 2) % 2 ≡ 1)
        → m / 2 ^ under r (count_trailing_zeros d (m / 2)) % 2 ≡ 1
    go zero e f =
        let z = count_trailing_zeros d (m / 2) in
        rw (pow-succ' 2 z, ← div-div-eq-div-mul m 2 (2 ^ z)) (f e)
    go (suc r) e f = rw div-one (omega arith)

pub trailing-few : (d m : ℕ) → 0 < m → m < 2 ^ d → count_trailing_zeros d m < d
unfolding count_trailing_zeros
trailing-few zero m h k = absurd (omega (arith, k))
trailing-few (suc d) m h k =
    go (m % 2) refl (λ e. trailing-few d (m / 2) (omega (arith, e)) (omega (arith, pow-suc 2 d)))
  where
    go : (r : ℕ) → m % 2 ≡ r → (m % 2 ≡ 0 → count_trailing_zeros d (m / 2) < d) → under r (count_trailing_zeros d (m / 2)) < suc d
    go zero e f = omega (arith, f e)
    go (suc r) e f = omega arith

-- no bit below it is 1
pub trailing-first : (d m b : ℕ) → b < count_trailing_zeros d m → m / 2 ^ b % 2 ≡ 0
unfolding count_trailing_zeros
trailing-first zero m b h = absurd (omega (arith, h))
trailing-first (suc d) m b h = go (m % 2) refl h b h (λ c l. trailing-first d (m / 2) c l)
  where
    go : (r : ℕ) → m % 2 ≡ r → b < under r (count_trailing_zeros d (m / 2)) → (b' : ℕ) → b' < under r (count_trailing_zeros d (m / 2))
        → ((c : ℕ) → c < count_trailing_zeros d (m / 2) → m / 2 / 2 ^ c % 2 ≡ 0) → m / 2 ^ b' % 2 ≡ 0
    go zero e l zero k f = rw div-one e
    go zero e l (suc c) k f = rw (pow-succ' 2 c, ← div-div-eq-div-mul m 2 (2 ^ c)) (f c (omega (arith, k)))
    go (suc r) e l b' k f = absurd (omega (arith, k))

-- ---- zeros

-- an array of zeros, at any place
pub zeros : (n i : ℕ) → get_or (replicate n 0) i 0 ≡ zero
zeros n i =
    elim (less? i n) [
      | inl h ↦ get_or-replicate n i 0 0 h
      | inr h ↦ get_or-eq_default (replicate n 0) 0 (rw length-replicate h)
    ]
