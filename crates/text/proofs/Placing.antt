-- Bytes placed in lent memory, one behind the other. In order: placing is writing from the start on, behind what stands
-- before (crate `lent`); how long the memory is; more behind what is placed; from the start on.
use mathlib.Core.List.{List, [], ◌++◌, append_assoc}
use mathlib.Core.Path.{◌≡◌, refl, sym, ◌∙◌}
use native.Mathlib.Omega.{arith}
use Prim.Native.Nat.{ℕ, ◌+◌, ◌≤◌}
use lib.ListN.{length, take, drop, length-append, take-append-drop}
use lib.Seq.{drop-drop, length-take-le}
use Rattle.lent.specs.Written.{written_over}
use Rattle.lent.proofs.Writing.{Written, written-by, written-part}
use Rattle.text.specs.Placed.{Placed}

-- ---- placing is writing

module _ (old : List ℕ) (at : ℕ) (new : List ℕ) (room : at + length new ≤ length old) where
  front : length (take at old ++ new) ≡ at + length new
  front = simp length-append (omega (arith, length-take-le at old (omega (arith, room))))

  same : take at old ++ written_over new (drop at old) ≡ written_over (take at old ++ new) old
  same = rw (front, drop-drop, append_assoc)

  pub placed-written : {end : ℕ} {now : List ℕ} → Placed old at new end now → Written end (take at old ++ new) old now
  placed-written p = written-by (front ∙ sym p.ends) (omega (arith, p.ends, room)) (p.whole ∙ same)

  pub written-placed : {end : ℕ} {now : List ℕ} → Written end (take at old ++ new) old now → Placed old at new end now
  written-placed w = record { ends = sym w.place ∙ front; whole = w.whole ∙ sym same }

pub placed-length : {old : List ℕ} {at : ℕ} {new : List ℕ} {end : ℕ} {now : List ℕ} → Placed old at new end now
    → at + length new ≤ length old → length now ≡ length old
placed-length {old} {at} {new} p room = (placed-written old at new room p).size

pub placed-none : (old : List ℕ) (at : ℕ) → Placed old at [] at old
placed-none old at = record { ends = omega arith; whole = sym (take-append-drop at old) }

-- ---- b behind a, where there is room for both

pub room-first : (old : List ℕ) (at : ℕ) (a b : List ℕ) → at + length (a ++ b) ≤ length old
    → at + length a ≤ length old
room-first old at a b room = omega (arith, simp length-append at room)

module _ {old : List ℕ} {at : ℕ} {a : List ℕ} {mid : ℕ} {then : List ℕ} (p : Placed old at a mid then) (b : List ℕ)
    (room : at + length (a ++ b) ≤ length old) where
  first-room : at + length a ≤ length old
  first-room = room-first old at a b room

  pub placed-room : mid + length b ≤ length then
  placed-room = omega (arith, simp length-append at room, p.ends, placed-length p first-room)

  pub placed-then : {end : ℕ} {now : List ℕ} → Placed then mid b end now → Placed old at (a ++ b) end now
  placed-then {end} {now} r = written-placed old at (a ++ b) room (rw (← append_assoc, r.ends, r.whole) both)
    where
      both : Written (mid + length b) ((take at old ++ a) ++ b) old (take mid then ++ written_over b (drop mid then))
      both =
          written-part (placed-written old at a first-room p) b refl
          (omega (arith, simp length-append at room, p.ends))

-- and where a third list stands behind b
pub placed-room-first : {old : List ℕ} {at : ℕ} {a : List ℕ} {mid : ℕ} {then : List ℕ} → Placed old at a mid then
    → (b e : List ℕ) → at + length (a ++ (b ++ e)) ≤ length old → mid + length b ≤ length then
placed-room-first {mid = mid} {then = then} p b e room = room-first then mid b e (placed-room p (b ++ e) room)

-- ---- from the start on

pub placed-all : {old new : List ℕ} {end : ℕ} {now : List ℕ} → Placed old 0 new end now
    → (end ≡ length new) × (now ≡ written_over new old)
placed-all p = (omega (arith, p.ends), p.whole)
