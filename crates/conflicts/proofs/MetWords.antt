-- Words made of tests. In order: one more bit; the four words of a block; the operations in conflict with one.
use mathlib.Core.Bool.{Bool, true, false, cond, ◌&&◌, ◌||◌}
use mathlib.Core.List.{[], ◌∷◌}
use mathlib.Core.Path.{◌≡◌, refl, ap, ◌∙◌}
use native.Mathlib.Nat.{add-zero, mod-eq_of_lt, pow-suc}
use native.Mathlib.Numerals.{add-one}
use native.Mathlib.Omega.{arith}
use Prim.Native.Nat.{ℕ, zero, suc, ◌+◌, ◌*◌, ◌-◌, ◌/◌, ◌%◌, ◌^◌, ◌<◌, ◌≤◌}
use lib.ListN.{get_or}
use lib.Pow.{pow_mono}
use Rattle.basics.proofs.Bits.{bit-none, ones_bit}
use Rattle.words.specs.Words.{is_in, Common, Joined, word_of}
use Rattle.words.proofs.Sets.{in-bit, word-few, word_in}
use Rattle.conflicts.specs.Cells.{bit, BitFits, marked, met_at, BlockMet, ConflictsIn}
use Rattle.conflicts.specs.declared.Cells.{Cells}
use Rattle.conflicts.proofs.CellTests.{place-block}

-- ---- one more bit

-- with b as bit j, x is below 2 ^ (j + 1)
pub bit-fits : {x b j : ℕ} → BitFits x b j → x + b * 2 ^ j < 4294967296
bit-fits {x} {b} {j} h = go b h.low
  where
    wide : 2 ^ suc j ≤ 2 ^ 32
    wide = pow_mono {i = suc j} {j = 32} (omega (arith, h.inside))

    go : (b : ℕ) → b < 2 → x + b * 2 ^ j < 4294967296
    go zero l = omega (arith, h.few, wide, pow-suc 2 j)
    go (suc zero) l = omega (arith, h.few, wide, pow-suc 2 j)
    go (suc (suc b)) l = absurd (omega (arith, l))

pub bit_shifted : {x b j : ℕ} → BitFits x b j → (b * 2 ^ j) % 4294967296 ≡ b * 2 ^ j
bit_shifted h = mod-eq_of_lt (omega (arith, bit-fits h))

pub bit-few : (x : Bool) → bit x < 2
bit-few true = omega arith
bit-few false = omega arith

pub word_more : (f : ℕ → Bool) (n : ℕ) → word_of f n + bit (f n) * 2 ^ n ≡ word_of f (n + 1)
unfolding word_of
word_more f n = rw add-one (go (f n))
  where
    go : (v : Bool) → word_of f n + bit v * 2 ^ n ≡ word_of f n + cond v (2 ^ n) 0
    go true = omega arith
    go false = omega arith

pub word-agree : (f g : ℕ → Bool) (n : ℕ) → ((k : ℕ) → k < n → f k ≡ g k) → word_of f n ≡ word_of g n
unfolding word_of
word-agree f g zero h = refl
word-agree f g (suc n) h = rw (word-agree f g n (λ k l. h k (omega arith)), h n (omega arith))

-- bit 0, and the others
pub word-front : (f : ℕ → Bool) (n : ℕ) → word_of f (suc n) ≡ bit (f 0) + 2 * word_of (λ k. f (suc k)) n
unfolding word_of
word-front f zero = go (f 0)
  where
    go : (v : Bool) → 0 + cond v (2 ^ 0) 0 ≡ bit v + 2 * 0
    go true = refl
    go false = refl
word-front f (suc n) = go (f (suc n)) (word-front f n)
  where
    go : (v : Bool) → word_of f (suc n) ≡ bit (f 0) + 2 * word_of (λ k. f (suc k)) n
        → word_of f (suc n) + cond v (2 ^ suc n) 0
        ≡ bit (f 0) + 2 * (word_of (λ k. f (suc k)) n + cond v (2 ^ n) 0)
    go true e = omega (arith, e, pow-suc 2 n)
    go false e = omega (arith, e)

-- ---- four words of a block

-- does operation 32 l + j of the block that starts at base meet these cells?
abbrev pub met_in : Cells → ℕ → ℕ → ℕ → ℕ → ℕ → Bool
met_in cells first last base l j = met_at cells first last (base + 4 * j + l)

-- the bits of the four from `left` on
pub record FourWords (cells : Cells) (first last base left x0 x1 x2 x3 : ℕ) : Type 0 where
  pub few : left ≤ 32
  pub word0 : x0 ≡ word_of (λ j. met_in cells first last base 0 (left + j)) (32 - left)
  pub word1 : x1 ≡ word_of (λ j. met_in cells first last base 1 (left + j)) (32 - left)
  pub word2 : x2 ≡ word_of (λ j. met_in cells first last base 2 (left + j)) (32 - left)
  pub word3 : x3 ≡ word_of (λ j. met_in cells first last base 3 (left + j)) (32 - left)

pub four-start : (cells : Cells) (first last base : ℕ) → FourWords cells first last base 32 0 0 0 0
unfolding word_of
four-start cells first last base = record { few = omega arith; word0 = refl; word1 = refl; word2 = refl; word3 = refl }

module _ {cells : Cells} {first last base left x0 x1 x2 x3 : ℕ}
    (w : FourWords cells first last base left x0 x1 x2 x3) (h : 1 ≤ left) where
  pub four-few : (x0 < 2147483648) × (x1 < 2147483648) × (x2 < 2147483648) × (x3 < 2147483648)
  four-few = (short 0 x0 w.word0, short 1 x1 w.word1, short 2 x2 w.word2, short 3 x3 w.word3)
    where
      short : (l x : ℕ) → x ≡ word_of (λ j. met_in cells first last base l (left + j)) (32 - left) → x < 2147483648
      short l x e =
          let wide : 2 ^ (32 - left) ≤ 2 ^ 31 = pow_mono {i = 32 - left} {j = 31} (omega arith) in
          omega (arith, e, wide, word-few (λ j. met_in cells first last base l (left + j)) (32 - left))

  -- bit j of each
  pub four-more : {j y0 y1 y2 y3 : ℕ} → j ≡ left - 1
      → y0 ≡ 2 * x0 + bit (met_at cells first last (base + 4 * j))
      → y1 ≡ 2 * x1 + bit (met_at cells first last (base + 4 * j + 1))
      → y2 ≡ 2 * x2 + bit (met_at cells first last (base + 4 * j + 2))
      → y3 ≡ 2 * x3 + bit (met_at cells first last (base + 4 * j + 3))
      → FourWords cells first last base j y0 y1 y2 y3
  four-more {j} z e0 e1 e2 e3 =
      record {
        few = omega (arith, w.few, z);
        word0 = rw (e0, w.word0) (rw add-zero at (front 0));
        word1 = rw (e1, w.word1) (front 1);
        word2 = rw (e2, w.word2) (front 2);
        word3 = rw (e3, w.word3) (front 3);
      }
    where
      front : (l : ℕ) → 2 * word_of (λ k. met_in cells first last base l (left + k)) (32 - left)
          + bit (met_at cells first last (base + 4 * j + l))
          ≡ word_of (λ k. met_in cells first last base l (j + k)) (32 - j)
      front l =
          let more : 32 - j ≡ suc (32 - left) = omega (arith, w.few, z) in
          let g : ℕ → Bool = λ k. met_in cells first last base l (j + k) in
          rw (more, word-front g (32 - left), add-zero, ← rest)
          (omega arith)
        where
          rest : word_of (λ k. met_in cells first last base l (left + k)) (32 - left)
              ≡ word_of (λ k. met_in cells first last base l (j + suc k)) (32 - left)
          rest = word-agree _ _ (32 - left) (λ k i.
              ap (λ (m : ℕ). met_in cells first last base l m) (omega (arith, z)))

-- the four, from bit 0 on
pub block-met : {cells : Cells} {first last block left x0 x1 x2 x3 : ℕ}
    → FourWords cells first last (128 * block) left x0 x1 x2 x3 → left < 1
    → BlockMet cells first last block (x0 ∷ x1 ∷ x2 ∷ x3 ∷ [])
block-met {cells} {first} {last} {block} {left} {x0} {x1} {x2} {x3} w d =
    record {
      met = λ i l. rw (
        word_at (i / 32) (omega arith),
        word_in (met_in cells first last (128 * block) (i / 32)) 32 (i % 32) (omega arith),
        place-block block i l,
      );
    }
  where
    full : (l x : ℕ) → x ≡ word_of (λ k. met_in cells first last (128 * block) l (left + k)) (32 - left)
        → x ≡ word_of (met_in cells first last (128 * block) l) 32
    full l x e =
        let none : left ≡ 0 = omega arith in
        e ∙ rw none (word-agree _ _ 32 (λ k i. ap (λ (m : ℕ). met_in cells first last (128 * block) l m) (omega arith)))

    word_at : (l : ℕ) → l < 4
        → get_or (x0 ∷ x1 ∷ x2 ∷ x3 ∷ []) l 0 ≡ word_of (met_in cells first last (128 * block) l) 32
    word_at zero h = full 0 x0 w.word0
    word_at (suc zero) h = full 1 x1 w.word1
    word_at (suc (suc zero)) h = full 2 x2 w.word2
    word_at (suc (suc (suc zero))) h = full 3 x3 w.word3
    word_at (suc (suc (suc (suc l)))) h = absurd (omega (arith, h))

-- ---- the operations in conflict with one

-- all or nothing
all_in : (b : Bool) (i : ℕ) → i < 32 → is_in (4294967295 * bit b) i ≡ b
unfolding is_in
all_in true i h = rw (ones_bit 32 i h)
all_in false i h = rw (bit-none i)

pub conflicts-in : {cells : Cells} {a met v all joined r : ℕ}
    → all ≡ 4294967295 * (get_or cells.writes (a / 32) 0 / 2 ^ (a % 32) % 2)
    → Joined all (get_or cells.writes v 0) joined → Common met joined r → ConflictsIn cells a met v r
conflicts-in {cells} {a} {met} {v} {all} {joined} {r} e j c = record { each = each }
  where
    own : (i : ℕ) → i < 32 → is_in all i ≡ marked cells a
    own i h = rw (e, ← in-bit (get_or cells.writes (a / 32) 0) (a % 32)) (all_in (marked cells a) i h)

    each : (i : ℕ) → i < 32 → is_in r i ≡ is_in met i && (marked cells a || marked cells (32 * v + i))
    each i h =
        let m : (32 * v + i) / 32 ≡ v = omega arith in
        let n : (32 * v + i) % 32 ≡ i = omega arith in
        rw (c.each i, j.each i, own i h, m, n)
