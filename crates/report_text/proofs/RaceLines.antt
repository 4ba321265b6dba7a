-- The lines of races, placed one behind the other. In order: the races that two lists hold; their lines; the lines
-- placed.
use mathlib.Core.List.{List, [], ◌∷◌, ◌++◌, append_assoc, append-nil}
use mathlib.Core.Path.{◌≡◌, refl, sym, ap, ◌∙◌}
use native.Mathlib.Numerals.{add-one}
use native.Mathlib.Omega.{arith}
use Prim.Native.Nat.{ℕ, zero, suc, ◌+◌, ◌*◌, ◌<◌, ◌≤◌}
use lib.ListN.{length, get_or, take, length-append}
use Rattle.race_model.specs.declared.Race.{Race}
use Rattle.race_model.specs.RaceList.{pair}
use Rattle.races.specs.Races.{race_records}
use Rattle.text.specs.Placed.{Placed}
use Rattle.text.proofs.Placing.{placed-none, placed-then, placed-length}
use Rattle.report_text.specs.Premises.{RaceRoom}
use Rattle.report_text.specs.ReportText.{race_line, race_lines}

-- ---- the races that two lists hold

records-more : (i : ℕ) (lower higher : List ℕ) → i < length lower → i < length higher
    → take (suc i) (race_records lower higher)
    ≡ take i (race_records lower higher) ++ pair (get_or lower i 0) (get_or higher i 0) ∷ []
unfolding race_records
records-more i [] higher l m = absurd (omega (arith, l))
records-more i (a ∷ lower) [] l m = absurd (omega (arith, m))
records-more zero (a ∷ lower) (b ∷ higher) l m = refl
records-more (suc i) (a ∷ lower) (b ∷ higher) l m =
    ap (λ (rest : List Race). pair a b ∷ rest) (records-more i lower higher (omega (arith, l)) (omega (arith, m)))

-- ---- their lines

lines-one : (l : List Race) (r : Race) → race_lines (l ++ r ∷ []) ≡ race_lines l ++ race_line r
unfolding race_lines
lines-one [] r = append-nil (race_line r)
lines-one (s ∷ l) r =
    ap (λ (rest : List ℕ). race_line s ++ rest) (lines-one l r)
    ∙ sym (append_assoc (race_line s) (race_lines l) (race_line r))

-- ---- the lines placed

-- those of the first i races, up to the place `end`
pub record LinesPlaced (old : List ℕ) (at : ℕ) (lower higher : List ℕ) (count i end : ℕ) (now : List ℕ) : Type 0 where
  pub seen : i ≤ count
  pub size : length now ≡ length old
  pub short : end ≤ at + 17 * i
  pub placed : Placed old at (race_lines (take i (race_records lower higher))) end now

pub lines_none : (old : List ℕ) (at : ℕ) (lower higher : List ℕ) (count : ℕ)
    → LinesPlaced old at lower higher count 0 at old
unfolding race_lines
lines_none old at lower higher count =
    record { seen = omega arith; size = refl; short = omega arith; placed = placed-none old at }

module _ {old : List ℕ} {at : ℕ} {lower higher : List ℕ} {count i end : ℕ} {now : List ℕ}
    (r : RaceRoom old at lower higher count) (p : LinesPlaced old at lower higher count i end now) where
  -- there is room for one more
  pub lines-room : i < count → end + 17 ≤ length now
  lines-room l = omega (arith, l, p.short, p.size, r.room)

  pub lines_more : i < count → {next : ℕ} {then : List ℕ}
      → Placed now end (race_line (pair (get_or lower i 0) (get_or higher i 0))) next then → next ≤ end + 17
      → LinesPlaced old at lower higher count (i + 1) next then
  lines_more l {next} {then} q s =
      record {
        seen = omega (arith, l);
        size = placed-length placed room;
        short = omega (arith, p.short, s);
        placed = placed;
      }
    where
      line : List ℕ
      line = race_line (pair (get_or lower i 0) (get_or higher i 0))

      more : race_lines (take (i + 1) (race_records lower higher)) ≡ race_lines (take i (race_records lower higher)) ++ line
      more =
          let in-lower : i < length lower = omega (arith, l, r.lower_holds) in
          let in-higher : i < length higher = omega (arith, l, r.higher_holds) in
          rw (add-one, records-more i lower higher in-lower in-higher)
          (lines-one (take i (race_records lower higher)) (pair (get_or lower i 0) (get_or higher i 0)))

      room : at + length (race_lines (take (i + 1) (race_records lower higher))) ≤ length old
      room = rw more (simp length-append (omega (arith, l, p.short, p.placed.ends, q.ends, s, r.room)))

      placed : Placed old at (race_lines (take (i + 1) (race_records lower higher))) next then
      placed = rw more (placed-then p.placed line (rw more at room) q)

  pub lines-all : count ≤ i
      → Placed old at (race_lines (take count (race_records lower higher))) end now × (end ≤ at + 17 * count)
  lines-all l = let same : i ≡ count = omega (arith, l, p.seen) in (rw same at p.placed, rw same at p.short)
