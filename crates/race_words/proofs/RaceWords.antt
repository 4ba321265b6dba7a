-- A word of a row of races. In order: the operations after one; the races with one.
use mathlib.Core.Bool.{Bool, true, false, not, ◌&&◌, ◌||◌, and-false}
use mathlib.Core.Logic.{inl, inr}
use mathlib.Core.Path.{◌≡◌, refl, sym, ap, ◌∙◌}
use native.Mathlib.Omega.{arith}
use Prim.Native.Nat.{ℕ, ◌+◌, ◌*◌, ◌/◌, ◌%◌, ◌<◌, ◌≤◌}
use lib.Dec.{eqb, ltb}
use lib.ListN.{get_or}
use borrow.Author.Tests.{ltb-true, lt-ltb, le-ltb, ne_eqb}
use Rattle.basics.proofs.Booleans.{less?}
use Rattle.trace.specs.Trace.{Trace, size, operation}
use Rattle.words.specs.Words.{is_in, Common}
use Rattle.words.proofs.Sets.{all_in}
use Rattle.model.specs.Computed.{unordered_in}
use Rattle.conflicts.specs.declared.Cells.{Cells}
use Rattle.meetings.specs.declared.Meetings.{Meetings}
use Rattle.unordered.specs.declared.Unordered.{Unordered}
use Rattle.conflicts.specs.Conflict.{in_conflict}
use Rattle.conflicts.specs.Cells.{place, met_at, marked, CellsHold, ConflictsIn}
use Rattle.conflicts.proofs.CellTests.{held_first, held-last, held-met}
use Rattle.meetings.specs.Meetings.{is_noted}
use Rattle.unordered.specs.Kept.{held}
use Rattle.race_model.specs.RaceList.{is_race}
use Rattle.race_model.proofs.RaceTests.{no-race-outside}
use Rattle.race_words.specs.RaceWords.{After, RaceWord, ToNote, RowReady}

-- ---- after a

pub after-all : {a v : ℕ} → a < 32 * v → After a v 4294967295
after-all {a} {v} l = record { each = λ i m. all_in i m ∙ sym (lt-ltb a (32 * v + i) (omega arith)) }

-- ---- races

-- a race, asked in another order
race-asked : (t : Trace) (a b : ℕ) → b < size t
    → is_race t a b ≡ (in_conflict (operation t a) (operation t b) && unordered_in t a b) && ltb a b
unfolding is_race
race-asked t a b l = go (ltb a b) (in_conflict (operation t a) (operation t b) && unordered_in t a b)
  where
    go : (x y : Bool) → (x && y) ≡ (y && x)
    go true true = refl
    go true false = refl
    go false true = refl
    go false false = refl

module _ {t : Trace} {a : ℕ} {cells : Cells} {kept : Unordered} {seen : Meetings} {w slot : ℕ}
    (ready : RowReady t a cells kept seen w slot) {v x y z r : ℕ} (few : v < 32) (from : a / 32 ≤ v)
    (c : ConflictsIn cells a (get_or seen.met (32 * slot + v) 0) v x) (f : Common x (get_or kept.sets (32 * w + v) 0) y)
    (o : After a v z) (m : Common y z r) where
  abbrev h : ToNote t a cells kept seen w slot
  h = ready.to_note

  module _ (i : ℕ) (l : i < 32) where
    abbrev b : ℕ
    b = 32 * v + i

    word_of : b / 32 ≡ v
    word_of = omega arith

    bit-of : b % 32 ≡ i
    bit-of = omega arith

    kept-is : is_in (get_or kept.sets (32 * w + v) 0) i ≡ ltb b (size t) && (not (eqb a b) && unordered_in t a b)
    unfolding held
    kept-is = rw (← h.worker, word_of, bit-of) at (h.free.each b (omega arith))

    -- does its word of meetings hold b, with a Write among the two?
    abbrev hit : Bool
    hit = is_in (get_or seen.met (32 * slot + v) 0) i && (marked cells a || marked cells b)

    -- what the word holds of b
    whole : is_in r i
        ≡ (hit
        && (ltb b (size t) && (not (eqb a b) && unordered_in t a b))) && ltb a b
    whole = m.each i ∙ rw (f.each i, c.each i l, kept-is, o.each i l)

    apart : a < b → eqb a b ≡ false
    apart l = ne_eqb a b (λ e. omega (arith, e))

    -- b is an operation, unordered with a, and stands after it: its cells are looked at
    looked : b < size t → unordered_in t a b ≡ true → a < b
        → hit
        ≡ in_conflict (operation t a) (operation t b)
    looked inside free later = rw met by-cells
      where
        hold : CellsHold t cells
        hold = h.cells_hold

        by-cells : met_at cells (get_or cells.first (place a) 0) (get_or cells.last (place a) 0) (place b)
            && (marked cells a || marked cells b)
            ≡ in_conflict (operation t a) (operation t b)
        by-cells =
            rw (
              held_first hold h.inside,
              held-last hold h.inside,
              (hold.each a h.inside).write,
              (hold.each b inside).write,
            )
            (held-met hold h.inside inside)

        kept_here : held kept w b ≡ true
        kept_here = rw (h.worker, h.free.each b (omega arith), lt-ltb b (size t) inside, apart later, free)

        noted : is_noted seen slot (b / 128) ≡ true
        noted = ready.noted b (omega arith) (omega (arith, h.few)) kept_here

        met : is_in (get_or seen.met (32 * slot + v) 0) i
            ≡ met_at cells (get_or cells.first (place a) 0) (get_or cells.last (place a) 0) (place b)
        met =
            rw (word_of, bit-of, h.slot_for.first, h.slot_for.last) at
            (h.notes.each slot b h.slot_for.few (omega arith) noted)

    race-bit : is_in r i ≡ is_race t a b
    race-bit = whole ∙ elim (less? b (size t)) [
      | inr out ↦ rw (le-ltb b (size t) out, no-race-outside t a b out) (go hit (ltb a b))
      | inl inside ↦
          rw (lt-ltb b (size t) inside, race-asked t a b inside)
          (tests inside (unordered_in t a b) (ltb a b) refl refl)
    ]
      where
        go : (p q : Bool) → ((p && false) && q) ≡ false
        go true q = refl
        go false q = refl

        tests : b < size t → (u s : Bool) → unordered_in t a b ≡ u → ltb a b ≡ s
            → ((hit && (not (eqb a b) && u)) && s)
            ≡ ((in_conflict (operation t a) (operation t b) && u) && s)
        tests inside u false e d =
            and-false (hit && (not (eqb a b) && u))
            ∙ sym (and-false (in_conflict (operation t a) (operation t b) && u))
        tests inside true true e d =
            rw (apart (ltb-true a b d)) (ap (λ (p : Bool). (p && true) && true) (looked inside e (ltb-true a b d)))
        tests inside false true e d =
            rw (and-false (not (eqb a b)))
            (go hit true ∙ sym (go (in_conflict (operation t a) (operation t b)) true))

  pub race-word : RaceWord t a v r
  race-word = record { each = race-bit }
