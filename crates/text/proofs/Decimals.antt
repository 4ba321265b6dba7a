-- A number in decimal. In order: its equations; its digits, as many as hold it and no more; how many there are.
use mathlib.Core.List.{List, [], ◌∷◌, ◌++◌}
use mathlib.Core.Logic.{inl, inr}
use mathlib.Core.Path.{◌≡◌, sym, ap, ap₂, ◌∙◌}
use native.Mathlib.Nat.{pow-succ', one-le-pow}
use native.Mathlib.Omega.{arith}
use Prim.Native.Nat.{ℕ, zero, suc, ◌-◌, ◌*◌, ◌/◌, ◌%◌, ◌^◌, ◌<◌, ◌≤◌}
use lib.ListN.{length, length-append}
use borrow.Author.Tests.{lt-ltb, le-ltb}
use Rattle.basics.proofs.Booleans.{less?}
use Rattle.io.specs.Digits.{last_digits, IsDigitCount, hex_digit_ascii}
use Rattle.text.specs.Decimal.{digit, decimal_within, decimal}

-- ---- its equations

within-below : (most x : ℕ) → x < 10 → decimal_within (suc most) x ≡ digit x ∷ []
unfolding decimal_within
within-below most x l = rw (lt-ltb x 10 l, decimal_within)

within-from : (most x : ℕ) → 10 ≤ x
    → decimal_within (suc most) x ≡ decimal_within most (x / 10) ++ digit (x % 10) ∷ []
unfolding decimal_within
within-from most x l = rw (le-ltb x 10 l, decimal_within)

-- where there are enough digits, it does not matter how many more there could be
within_same : (most more x : ℕ) → x < most → x < more → decimal_within most x ≡ decimal_within more x
within_same zero more x l m = absurd (omega (arith, l))
within_same (suc most) zero x l m = absurd (omega (arith, m))
within_same (suc most) (suc more) x l m = elim (less? x 10) [
  | inl i ↦ within-below most x i ∙ sym (within-below more x i)
  | inr i ↦ within-from most x i
      ∙ ap (λ (d : List ℕ). d ++ digit (x % 10) ∷ []) (within_same most more (x / 10) (omega arith) (omega arith))
      ∙ sym (within-from more x i)
]

pub decimal-below : (x : ℕ) → x < 10 → decimal x ≡ digit x ∷ []
unfolding decimal
decimal-below x l = within-below x x l

pub decimal-from : (x : ℕ) → 10 ≤ x → decimal x ≡ decimal (x / 10) ++ digit (x % 10) ∷ []
unfolding decimal
decimal-from x l =
    within-from x x l
    ∙ ap (λ (d : List ℕ). d ++ digit (x % 10) ∷ []) (within_same x (suc (x / 10)) (x / 10) (omega arith) (omega arith))

-- ---- its digits, by the kit's definition

last-digit : (x : ℕ) → hex_digit_ascii (x % 10) ≡ digit (x % 10)
last-digit x = let l : x % 10 < 10 = omega arith in rw (lt-ltb (x % 10) 10 l)

-- as many as hold it, and no more
decimal-digits : (k x : ℕ) → x < 10 ^ suc k → (0 < k → 10 ^ k ≤ x) → last_digits 10 (suc k) x ≡ decimal x
decimal-digits zero x u d =
    let same : x % 10 ≡ x = omega (arith, u) in
    ap (λ (g : ℕ). g ∷ []) (last-digit x) ∙ ap (λ (y : ℕ). digit y ∷ []) same ∙ sym (decimal-below x u)
decimal-digits (suc k) x u d =
    let least : 10 * 10 ^ k ≤ x = rw (pow-succ' 10 k) at (d (omega arith)) in
    let most : x < 10 * 10 ^ suc k = rw (pow-succ' 10 (suc k)) at u in
    let one : 1 ≤ 10 ^ k = one-le-pow k 10 (omega arith) in
    ap₂ (λ (ds : List ℕ) (g : ℕ). ds ++ g ∷ []) (decimal-digits k (x / 10) (omega arith) (λ i. omega arith))
    (last-digit x)
    ∙ sym (decimal-from x (omega arith))

pub decimal-fewest : (x k : ℕ) → IsDigitCount 10 1 x k → last_digits 10 k x ≡ decimal x
decimal-fewest x zero f = absurd (omega (arith, f.0))
decimal-fewest x (suc k) f =
    let same : suc k - 1 ≡ k = omega arith in
    decimal-digits k x f.1 (λ i. rw same at (f.2 (omega (arith, i))))

-- ---- how many there are

pub decimal-length : (k x : ℕ) → x < 10 ^ suc k → length (decimal x) ≤ suc k
decimal-length zero x u = rw (decimal-below x u) (omega arith)
decimal-length (suc k) x u = elim (less? x 10) [
  | inl i ↦ rw (decimal-below x i) (omega arith)
  | inr i ↦
      let most : x < 10 * 10 ^ suc k = rw (pow-succ' 10 (suc k)) at u in
      let rest = decimal-length k (x / 10) (omega arith) in
      rw (decimal-from x i) (simp length-append (omega (arith, rest)))
]
