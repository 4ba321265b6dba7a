-- A turn in which nothing moves. In order: the loop that asks for all workers; the turn's end without a move.
use mathlib.Core.Bool.{Bool, true, false}
use mathlib.Core.List.{List}
use mathlib.Core.Logic.{inl, inr}
use mathlib.Core.Path.{◌≡◌, refl}
use native.Mathlib.Numerals.{add-one}
use native.Mathlib.Omega.{arith}
use Prim.Native.Nat.{ℕ, zero, suc, ◌+◌, ◌*◌, ◌<◌, ◌≤◌}
use lib.Bits.{bit_or, and_le_l, and_le_r, or_add_and}
use lib.Dec.{leb, ltb}
use lib.ListN.{get_or}
use borrow.Author.Tests.{ltb-false, leb-false}
use mir.Val.{bool_byte}
use Rattle.basics.proofs.Booleans.{equal?}
use Rattle.trace.specs.Reading.{trace_of}
use Rattle.unordered.specs.declared.Unordered.{Unordered}
use Rattle.unordered.specs.Kept.{low_of, high_of, rank_at, due_of, gone_of, Carried}
use Rattle.unordered.specs.Turns.{Turn, Still, AllStill, moves_bit}
use Rattle.unordered.proofs.Ends.{of-few}
use Rattle.unordered.proofs.Entries.{Place, place-given}
use Rattle.unordered.proofs.Loops.{in_end, out-end}
use Rattle.unordered.proofs.Ranks.{ranks-but}
use Rattle.unordered.proofs.Results.{turn-start}

-- ---- asking for all workers

or-zero : (x y : ℕ) → bit_or x y ≡ 0 → (x ≡ 0) × (y ≡ 0)
or-zero x y e = (omega (arith, or_add_and x y, and_le_r x y), omega (arith, or_add_and x y, and_le_l x y))

byte-false : (b : Bool) → bool_byte b ≡ 0 → b ≡ false
byte-false true e = absurd (omega arith)
byte-false false e = refl

-- where `any` is 0, nothing moves for the workers below q
pub record Asked (table : List ℕ) (kept : Unordered) (p a w q any : ℕ) : Type 0 where
  pub below : q ≤ p
  pub still : any ≡ 0 → (r : ℕ) → r < q → Still table kept p a w r

pub ask-start : {table : List ℕ} {kept : Unordered} {p a w : ℕ} → Asked table kept p a w 0 0
ask-start = record { below = omega arith; still = λ e r l. absurd (omega arith) }

module _ {table : List ℕ} {kept : Unordered} {p a w q any : ℕ} (s : Asked table kept p a w q any) where
  pub ask-more : {bound due own gone bit : ℕ} → q < p → bound ≡ get_or table (a * p + q) 0 → due ≡ due_of kept w q
      → own ≡ get_or table (a * p + w) 0 → gone ≡ gone_of kept w q → bit ≡ moves_bit bound due own gone
      → Asked table kept p a w (q + 1) (bit_or any bit)
  ask-more {bound} {due} {own} {gone} {bit} l b d o g f =
      record {
        below = omega arith;
        still = λ e r m.
            let (before, this) = or-zero any bit e in
            elim (equal? r q) [
              | inl z ↦ rw z (here (omega (arith, this, f)))
              | inr z ↦ s.still before r (omega (arith, z))
            ];
      }
    where
      here : moves_bit bound due own gone ≡ 0 → Still table kept p a w q
      here e =
          let (x, y) = or-zero (bool_byte (ltb due bound)) (bool_byte (leb gone own)) e in
          let high = ltb-false due bound (byte-false (ltb due bound) x) in
          let low = leb-false gone own (byte-false (leb gone own) y) in
          record { due = omega (arith, high, b, d); gone = omega (arith, low, o, g) }

  pub ask-end : p ≤ q → any ≡ 0 → AllStill table kept p a w
  ask-end l e = record { each = λ r m. s.still e r (omega arith) }

-- ---- the turn's end without a move

module _ {bytes table : List ℕ} {n a w : ℕ} (l : Place bytes table n a w) {kept : Unordered}
    (c : Carried (trace_of bytes) table a kept) (s : AllStill table kept (trace_of bytes).workers a w)
  where
    abbrev p : ℕ
    p = (trace_of bytes).workers

    own : w < p
    own = of-few (place-given l) l.turn

    still-turn : (q : ℕ) → q ≤ p → Turn (trace_of bytes) a w q kept
    still-turn zero few = turn-start c.state
    still-turn (suc q) few = rw (← add-one q) (more (still-turn q (omega arith)))
      where
        here : Still table kept p a w q
        here = s.each q (omega arith)

        due : get_or table (a * p + q) 0 ≤ rank_at table p n (high_of kept w q) q
        due =
            let same = rw (← l.count) at (c.ranks.each w q own (omega arith)).due in
            omega (arith, here.due, same)

        gone : get_or table (a * p + w) 0 < rank_at table p (high_of kept w q) (low_of kept w q) w
        gone = omega (arith, here.gone, (c.ranks.each w q own (omega arith)).gone)

        more : Turn (trace_of bytes) a w q kept → Turn (trace_of bytes) a w (q + 1) kept
        more t =
            let (turn, ahead, ranks) = in_end l (omega arith)
            (record { turn = t; end = refl; rank = refl; ranks = ranks-but w q c.ranks }) refl due in
            (out-end l (omega arith)
            (record { turn = turn; ahead = ahead; high_end = refl; end = refl; rank = refl; ranks = ranks })
            refl gone).0

    pub still-done : Turn (trace_of bytes) a w p kept
    still-done = still-turn p (omega arith)
