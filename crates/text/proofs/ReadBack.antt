-- A line tells its numbers. In order: what digits are worth, and that a number is what its decimal digits are worth;
-- that they are digits; digits up to a byte that is none; the numbers of a line.
use mathlib.Core.List.{List, [], ◌∷◌, ◌++◌, append_assoc}
use mathlib.Core.Logic.{inl, inr}
use mathlib.Core.Path.{◌≡◌, refl, sym, ap, ◌∙◌}
use native.Mathlib.Omega.{arith}
use Prim.Native.Nat.{ℕ, zero, suc, ◌+◌, ◌-◌, ◌*◌, ◌/◌, ◌%◌, ◌<◌, ◌≤◌}
use lib.ListN.{length, drop}
use lib.Seq.{drop_at}
use Rattle.basics.proofs.Booleans.{less?}
use Rattle.text.specs.Ascii.{ascii}
use Rattle.text.specs.Decimal.{digit, decimal}
use Rattle.text.specs.Lines.{labelled, pair_line}
use Rattle.text.proofs.Decimals.{decimal-below, decimal-from}

-- ---- what digits are worth

abbrev worth_from : ℕ → List ℕ → ℕ
worth_from v [] = v
worth_from v (d ∷ rest) = worth_from (10 * v + (d - 0x30)) rest

worth-append : (v : ℕ) (a b : List ℕ) → worth_from v (a ++ b) ≡ worth_from (worth_from v a) b
worth-append v [] b = refl
worth-append v (d ∷ a) b = worth-append (10 * v + (d - 0x30)) a b

-- of each number below `most`
worth-below : (most x : ℕ) → x < most → worth_from 0 (decimal x) ≡ x
worth-below zero x l = absurd (omega (arith, l))
worth-below (suc most) x l = elim (less? x 10) [
  | inl i ↦ rw (decimal-below x i) (omega arith)
  | inr i ↦
      let rest = worth-below most (x / 10) (omega arith) in
      rw (decimal-from x i, worth-append 0 (decimal (x / 10)) (digit (x % 10) ∷ []), rest) (omega arith)
]

pub decimal_injective : (x y : ℕ) → decimal x ≡ decimal y → x ≡ y
decimal_injective x y e =
    sym (worth-below (suc x) x (omega arith)) ∙ ap (worth_from 0) e ∙ worth-below (suc y) y (omega arith)

-- ---- digits

abbrev Digits : List ℕ → Type 0
Digits [] = Unit {0}
Digits (d ∷ rest) = (0x30 ≤ d) × Digits rest

digits_append : (a b : List ℕ) → Digits a → Digits b → Digits (a ++ b)
digits_append [] b p q = q
digits_append (d ∷ a) b p q = (p.0, digits_append a b p.1 q)

digits-below : (most x : ℕ) → x < most → Digits (decimal x)
digits-below zero x l = absurd (omega (arith, l))
digits-below (suc most) x l = elim (less? x 10) [
  | inl i ↦ rw (decimal-below x i) (omega arith, tt)
  | inr i ↦
      rw (decimal-from x i)
      (digits_append (decimal (x / 10)) (digit (x % 10) ∷ []) (digits-below most (x / 10) (omega arith))
      (omega arith, tt))
]

decimal-all-digits : (x : ℕ) → Digits (decimal x)
decimal-all-digits x = digits-below (suc x) x (omega arith)

-- ---- digits up to a byte that is none

digits-end : (a b : List ℕ) (s u : ℕ) (r t : List ℕ) → Digits a → Digits b → s < 0x30 → u < 0x30
    → a ++ (s ∷ r) ≡ b ++ (u ∷ t) → (a ≡ b) × (r ≡ t)
digits-end [] [] s u r t p q l m e = (refl, cc)
digits-end [] (d ∷ b) s u r t p q l m e = let same : s ≡ d = cc in absurd (omega (arith, same, q.0, l))
digits-end (d ∷ a) [] s u r t p q l m e = let same : d ≡ u = cc in absurd (omega (arith, same, p.0, m))
digits-end (d ∷ a) (c ∷ b) s u r t p q l m e =
    let same : d ≡ c = cc in
    let tails : a ++ (s ∷ r) ≡ b ++ (u ∷ t) = cc in
    let (front, rest) = digits-end a b s u r t p.1 q.1 l m tails in
    (cc, rest)

-- two numbers, up to such a byte
decimals-end : (x y s u : ℕ) (r t : List ℕ) → s < 0x30 → u < 0x30 → decimal x ++ (s ∷ r) ≡ decimal y ++ (u ∷ t)
    → (x ≡ y) × (r ≡ t)
decimals-end x y s u r t l m e =
    let (same, rest) = digits-end (decimal x) (decimal y) s u r t (decimal-all-digits x) (decimal-all-digits y) l m e in
    (decimal_injective x y same, rest)

-- ---- the numbers of a line

cancel-front : (front a b : List ℕ) → front ++ a ≡ front ++ b → a ≡ b
cancel-front front a b e =
    sym (drop_at front a (length front) refl) ∙ ap (drop (length front)) e ∙ drop_at front b (length front) refl

-- a line of two numbers, where the second label starts with a byte s that is no digit
module _ (first : List ℕ) (s : ℕ) (second : List ℕ) (l : s < 0x30) where
  parts : (x y : ℕ)
      → pair_line first x (s ∷ second) y ≡ first ++ (decimal x ++ (s ∷ (second ++ (decimal y ++ ascii "\n"))))
  unfolding labelled pair_line
  parts x y = simp append_assoc

  pub pair-line-numbers : (x y v w : ℕ) → pair_line first x (s ∷ second) y ≡ pair_line first v (s ∷ second) w
      → (x ≡ v) × (y ≡ w)
  pair-line-numbers x y v w e =
      let behind = cancel-front first _ _ (sym (parts x y) ∙ e ∙ parts v w) in
      let (xs, rest) = decimals-end x v s s _ _ l l behind in
      let (ys, end) = decimals-end y w 10 10 [] [] (omega arith) (omega arith) (cancel-front second _ _ rest) in
      (xs, ys)
