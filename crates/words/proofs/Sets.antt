-- Sets as words. In order: a bit as a test; what is in both, in one of two; one more, one less; the numbers above one;
-- a set cut down to the numbers below one; how many; the set of those that pass a test.
use mathlib.Core.Bool.{Bool, true, false, cond, not, ◌&&◌, ◌||◌}
use mathlib.Core.Logic.{◌⊎◌, inl, inr}
use mathlib.Core.Path.{◌≡◌, refl, sym, ap, ◌∙◌}
use native.Mathlib.Nat.{mod-eq_of_lt, mod-lt, div-eq_of_lt, one-mul, mul_assoc, add_comm, pow-suc}
use native.Mathlib.Numerals.{add-one}
use native.Mathlib.Omega.{arith}
use Prim.Native.Nat.{ℕ, zero, suc, ◌+◌, ◌-◌, ◌*◌, ◌/◌, ◌%◌, ◌^◌, ◌≤◌, ◌<◌, min, max}
use lib.Bits.{bit_and, bit_or, bit_xor, differ}
use lib.Count.{ones, ones_cat}
use lib.Dec.{eqb, ltb}
use lib.ListN.{length}
use lib.Pow.{pow-lt, pow_mono, pow-add, pow_pos, high, low, field, mod-mod-pow, mod-pow-add, shr-shr, shl-shr}
use borrow.Author.Tests.{eq-eqb, ne_eqb, lt-ltb, le-ltb}
use mir.Val.{bool_byte}
use Rattle.basics.proofs.Bits.{and-bit, or-bit, xor-bit, bit-same, bit-other, bit-none, ones_bit}
use Rattle.basics.proofs.Booleans.{equal?, less?}
use Rattle.words.specs.Passing.{passing}
use Rattle.words.specs.Words.{is_in, With, Without, Common, Joined, Above, word_of}
use Rattle.words.proofs.Passing.{passing-count, passing-zero}

-- ---- a bit as a test

-- a number below 2, as a test
two_cases : (b : ℕ) → b < 2 → (b ≡ 0) ⊎ (b ≡ 1)
two_cases zero h = inl refl
two_cases (suc zero) h = inr refl
two_cases (suc (suc b)) h = absurd (omega arith)

pub in-bit : (x i : ℕ) → bool_byte (is_in x i) ≡ x / 2 ^ i % 2
unfolding is_in
in-bit x i = elim (two_cases (x / 2 ^ i % 2) (omega arith)) [ inl e ↦ rw e | inr e ↦ rw e ]

-- equal bits are equal tests
in-same : (x y i j : ℕ) → x / 2 ^ i % 2 ≡ y / 2 ^ j % 2 → is_in x i ≡ is_in y j
unfolding is_in
in-same x y i j e = ap (λ (b : ℕ). eqb b 1) e

is_one : (x i : ℕ) → x / 2 ^ i % 2 ≡ 1 → is_in x i ≡ true
unfolding is_in
is_one x i e = rw e

is_zero : (x i : ℕ) → x / 2 ^ i % 2 ≡ 0 → is_in x i ≡ false
unfolding is_in
is_zero x i e = rw e

-- ---- of two sets

pub common-in : (x y : ℕ) → Common x y (bit_and x y)
unfolding is_in
common-in x y =
    record {
      each = λ k. ap (λ (b : ℕ). eqb b 1) (and-bit x y k)
          ∙ go (two_cases (x / 2 ^ k % 2) (omega arith)) (two_cases (y / 2 ^ k % 2) (omega arith));
    }
  where
    go : {a b : ℕ} → (a ≡ 0) ⊎ (a ≡ 1) → (b ≡ 0) ⊎ (b ≡ 1) → eqb (min a b) 1 ≡ eqb a 1 && eqb b 1
    go (inl e) (inl f) = rw (e, f)
    go (inl e) (inr f) = rw (e, f)
    go (inr e) (inl f) = rw (e, f)
    go (inr e) (inr f) = rw (e, f)

pub joined_in : (x y : ℕ) → Joined x y (bit_or x y)
unfolding is_in
joined_in x y =
    record {
      each = λ k. ap (λ (b : ℕ). eqb b 1) (or-bit x y k)
          ∙ go (two_cases (x / 2 ^ k % 2) (omega arith)) (two_cases (y / 2 ^ k % 2) (omega arith));
    }
  where
    go : {a b : ℕ} → (a ≡ 0) ⊎ (a ≡ 1) → (b ≡ 0) ⊎ (b ≡ 1) → eqb (max a b) 1 ≡ eqb a 1 || eqb b 1
    go (inl e) (inl f) = rw (e, f)
    go (inl e) (inr f) = rw (e, f)
    go (inr e) (inl f) = rw (e, f)
    go (inr e) (inr f) = rw (e, f)

-- ---- one more, one less

pub own_in : (i k : ℕ) → is_in (2 ^ i) k ≡ eqb k i
own_in i k = elim (equal? k i) [
  | inl e ↦ rw (e, is_one (2 ^ i) i (bit-same i), eq-eqb i i refl)
  | inr n ↦ rw (is_zero (2 ^ i) k (bit-other i k (λ z. n (sym z))), ne_eqb k i n)
]

-- 1 << i
one_bit : (i : ℕ) → i < 32 → (1 * 2 ^ i) % 4294967296 ≡ 2 ^ i
one_bit i h = rw one-mul (mod-eq_of_lt (pow-lt h))

pub with-one : (x i : ℕ) → i < 32 → With x i (bit_or x ((1 * 2 ^ i) % 4294967296))
with-one x i h =
    rw (one_bit i h)
    (record { each = λ k. (joined_in x (2 ^ i)).each k ∙ ap (λ (b : Bool). is_in x k || b) (own_in i k) })

-- nothing past the digits of a number
pub in-past : (n x k : ℕ) → x < 2 ^ n → n ≤ k → is_in x k ≡ false
in-past n x k h l =
    let small : x < 2 ^ k = omega (arith, pow_mono l) in
    is_zero x k (rw (div-eq_of_lt small))

-- all but i
all_but : (i k : ℕ) → k < 32 → is_in (bit_xor (2 ^ i) 4294967295) k ≡ not (eqb k i)
all_but i k h = elim (equal? k i) [
  | inl e ↦ rw (eq-eqb k i e) (is_zero _ k (bit ∙ rw (e, bit-same i)))
  | inr n ↦ rw (ne_eqb k i n) (is_one _ k (bit ∙ rw (bit-other i k (λ z. n (sym z)))))
]
  where
    bit : bit_xor (2 ^ i) 4294967295 / 2 ^ k % 2 ≡ differ (2 ^ i / 2 ^ k % 2) 1
    bit = xor-bit (2 ^ i) 4294967295 k ∙ ap (λ (b : ℕ). differ (2 ^ i / 2 ^ k % 2) b) (ones_bit 32 k h)

pub without-one : (x i : ℕ) → x < 4294967296 → i < 32
    → Without x i (bit_and x (bit_xor ((1 * 2 ^ i) % 4294967296) 4294967295))
without-one x i few h = rw (one_bit i h) (record { each = λ k. (common-in x mask).each k ∙ go k (less? k 32) })
  where
    mask : ℕ
    mask = bit_xor (2 ^ i) 4294967295

    go : (k : ℕ) → (k < 32) ⊎ (32 ≤ k) → is_in x k && is_in mask k ≡ is_in x k && not (eqb k i)
    go k (inl l) = ap (λ (b : Bool). is_in x k && b) (all_but i k l)
    go k (inr l) = rw (in-past 32 x k few l)

-- ---- a set cut down to the numbers below n

pub cut_in : (x n i : ℕ) → i < n → is_in (x % 2 ^ n) i ≡ is_in x i
cut_in x n i l =
    let d = n - (i + 1) in
    let e : n ≡ suc d + i = omega arith in
    in-same (x % 2 ^ n) x i i
    (rw (e, field x (suc d) i) (rw add-one at (mod-mod-pow (x / 2 ^ i) d 1)))

-- ---- the numbers above one

pub above_in : (i : ℕ) → i < 32 → Above i ((4294967294 * 2 ^ i) % 4294967296)
above_in i h = record { each = λ k l. cut_in (4294967294 * 2 ^ i) 32 k l ∙ go k l (less? i k) }
  where
    go : (k : ℕ) → k < 32 → (i < k) ⊎ (k ≤ i) → is_in (4294967294 * 2 ^ i) k ≡ ltb i k
    go k l (inl a) =
        let d = k - (i + 1) in
        let e : k ≡ i + (1 + d) = omega arith in
        rw (lt-ltb i k a)
        (is_one _ k (rw (e, ← shr-shr (4294967294 * 2 ^ i) i (1 + d), shl-shr 4294967294 i, ← shr-shr 4294967294 1 d)
        (ones_bit 31 d (omega arith))))
    go k l (inr b) =
        let d = i - k in
        let e : i ≡ d + k = omega arith in
        rw (le-ltb i k b)
        (is_zero _ k (rw (e, pow-add 2 d k, ← mul_assoc 4294967294 (2 ^ d) (2 ^ k), shl-shr (4294967294 * 2 ^ d) k)
        (omega arith)))

-- ---- how many

digit_ones : (b : ℕ) → (b ≡ 0) ⊎ (b ≡ 1) → ones b ≡ b
unfolding ones
digit_ones b (inl e) = rw e
digit_ones b (inr e) = rw e

-- as many as there are ones
pub count-below : (x d : ℕ) → ones (x % 2 ^ d) ≡ length (passing (is_in x) d)
count-below x zero = digit_ones _ (inl (omega arith)) ∙ omega (arith, passing-zero (is_in x))
count-below x (suc d) =
    rw (← add-one d, add_comm d 1, mod-pow-add x 1 d)
    (ones_cat d (x / 2 ^ d % 2) (x % 2 ^ d) (mod-lt x (pow_pos d)) ∙ last (count-below x d))
  where
    last : ones (x % 2 ^ d) ≡ length (passing (is_in x) d)
        → ones (x / 2 ^ d % 2) + ones (x % 2 ^ d) ≡ length (passing (is_in x) (1 + d))
    last before =
        rw (add_comm 1 d, add-one d)
        (omega (
          arith,
          before,
          digit_ones (x / 2 ^ d % 2) (two_cases (x / 2 ^ d % 2) (omega arith)),
          passing-count (is_in x) d,
          in-bit x d,
        ))

pub count-in : (x : ℕ) → x < 4294967296 → ones x ≡ length (passing (is_in x) 32)
count-in x h = ap ones (sym (mod-eq_of_lt h)) ∙ count-below x 32

-- ---- the set of those that pass a test

module _ (f : ℕ → Bool) where
  pub word-few : (n : ℕ) → word_of f n < 2 ^ n
  unfolding word_of
  word-few zero = omega arith
  word-few (suc n) = go (f n) (word-few n)
    where
      go : (v : Bool) → word_of f n < 2 ^ n → word_of f n + cond v (2 ^ n) 0 < 2 ^ suc n
      go true h = omega (arith, pow-suc 2 n)
      go false h = omega (arith, pow-suc 2 n)

  word-digits : (n : ℕ) → word_of f (suc n) ≡ bool_byte (f n) * 2 ^ n + word_of f n
  unfolding word_of
  word-digits n = go (f n)
    where
      go : (v : Bool) → word_of f n + cond v (2 ^ n) 0 ≡ bool_byte v * 2 ^ n + word_of f n
      go true = omega arith
      go false = omega arith

  pub word_in : (n i : ℕ) → i < n → is_in (word_of f n) i ≡ f i
  unfolding is_in
  word_in zero i l = absurd (omega arith)
  word_in (suc n) i l = elim (equal? i n) [
    | inl e ↦ rw e last
    | inr d ↦ before (omega (arith, d)) ∙ word_in n i (omega (arith, d))
  ]
    where
      top : word_of f (suc n) / 2 ^ n ≡ bool_byte (f n)
      top = rw (word-digits n) (high (bool_byte (f n)) n (word-few n))

      test : (v : Bool) → eqb (bool_byte v % 2) 1 ≡ v
      test true = refl
      test false = refl

      last : is_in (word_of f (suc n)) n ≡ f n
      last = rw top (test (f n))

      rest : word_of f (suc n) % 2 ^ n ≡ word_of f n
      rest = rw (word-digits n) (low (bool_byte (f n)) n (word-few n))

      before : i < n → is_in (word_of f (suc n)) i ≡ is_in (word_of f n) i
      before j = sym (cut_in (word_of f (suc n)) n i j) ∙ ap (λ (x : ℕ). is_in x i) rest

-- ---- the empty set

pub none_in : (i : ℕ) → is_in 0 i ≡ false
none_in i = is_zero 0 i (bit-none i)

-- ---- the set of all

pub all_in : (i : ℕ) → i < 32 → is_in 4294967295 i ≡ true
all_in i l = is_one 4294967295 i (ones_bit 32 i l)
