-- Noting what a row needs. In order: a block without a kept operation; the blocks so far.
use mathlib.Core.Bool.{Bool, true, false, ◌||◌, true≢false}
use mathlib.Core.Path.{◌≡◌, refl, sym, ◌∙◌}
use native.Mathlib.Omega.{arith}
use Prim.Native.Nat.{ℕ, zero, suc, ◌+◌, ◌*◌, ◌/◌, ◌%◌}
use lib.ListN.{get_or}
use Rattle.words.specs.Words.{is_in, Joined}
use Rattle.words.proofs.Sets.{none_in}
use Rattle.conflicts.specs.declared.Cells.{Cells}
use Rattle.meetings.specs.declared.Meetings.{Meetings}
use Rattle.unordered.specs.declared.Unordered.{Unordered}
use Rattle.meetings.specs.Meetings.{first_of, last_of, Notes}
use Rattle.unordered.specs.Kept.{held}
use Rattle.race_words.specs.RaceWords.{NotedTo, BlockEmpty}

-- ---- a block

-- neither of two tests passes
neither : (x y : Bool) → (x || y) ≡ false → (x ≡ false) × (y ≡ false)
neither false y e = (refl, e)
neither true y e = absurd (true≢false e)

-- the union of four words is empty
module _ {k₀ k₁ k₂ k₃ x y z : ℕ} (f : Joined k₀ k₁ x) (g : Joined k₂ k₃ y) (h : Joined x y z) (e : z ≡ 0) (i : ℕ) where
  all-empty : ((is_in k₀ i ≡ false) × (is_in k₁ i ≡ false)) × ((is_in k₂ i ≡ false) × (is_in k₃ i ≡ false))
  all-empty =
      let none : is_in z i ≡ false = rw e (none_in i) in
      let (a, b) = neither (is_in x i) (is_in y i) (sym (h.each i) ∙ none) in
      (neither _ _ (sym (f.each i) ∙ a), neither _ _ (sym (g.each i) ∙ b))

pub block-empty : (kept : Unordered) (w block : ℕ) {x y z : ℕ} → Joined (get_or kept.sets (32 * w + 4 * block) 0)
    (get_or kept.sets (32 * w + 4 * block + 1) 0) x
    → Joined (get_or kept.sets (32 * w + 4 * block + 2) 0) (get_or kept.sets (32 * w + 4 * block + 3) 0) y
    → Joined x y z → z ≡ 0
    → BlockEmpty kept w block
unfolding held
block-empty kept w block f g h e b i = go (b / 32 % 4) refl
  where
    at : (l : ℕ) → b / 32 % 4 ≡ l → 32 * w + b / 32 ≡ 32 * w + 4 * block + l
    at l s = omega (arith, i, s)

    go : (l : ℕ) → b / 32 % 4 ≡ l → is_in (get_or kept.sets (32 * w + b / 32) 0) (b % 32) ≡ false
    go zero s =
        let first : 32 * w + b / 32 ≡ 32 * w + 4 * block = omega (arith, i, s) in
        rw first (all-empty f g h e (b % 32)).0.0
    go (suc zero) s = rw (at 1 s) (all-empty f g h e (b % 32)).0.1
    go (suc (suc zero)) s = rw (at 2 s) (all-empty f g h e (b % 32)).1.0
    go (suc (suc (suc zero))) s = rw (at 3 s) (all-empty f g h e (b % 32)).1.1
    go (suc (suc (suc (suc l)))) s = absurd (omega (arith, s))

-- ---- block by block

-- the blocks from `from` to `to` are done in slot s, which has its cells
pub record NotingTo (cells : Cells) (kept : Unordered) (w s first last from to : ℕ) (seen : Meetings) : Type 0 where
  pub notes : Notes cells seen
  pub first_same : first_of seen s ≡ first
  pub last_same : last_of seen s ≡ last
  pub noted : NotedTo kept w seen s from to
