-- The test by the arrays is `in_conflict`. In order: bits; places in the arrays; the cells of an operation; two
-- operations in conflict, by their cells; by what the arrays hold of them.
use mathlib.Core.Bool.{Bool, true, false, ◌&&◌, ◌||◌, and_comm, and-false, true≢false}
use mathlib.Core.List.{List}
use mathlib.Core.Logic.{inl, inr, ◌≢◌}
use mathlib.Core.Path.{◌≡◌, refl, ◌∙◌}
use native.Mathlib.Nat.{div-div-eq-div-mul}
use native.Mathlib.Omega.{arith}
use Prim.Native.Nat.{ℕ, ◌+◌, ◌*◌, ◌/◌, ◌%◌, ◌<◌, ◌≤◌}
use lib.Bits.{bit_and}
use lib.Dec.{leb, ltb}
use lib.ListN.{get_or}
use borrow.Author.Tests.{leb-true, le-leb, lt-leb, le-ltb, lt-ltb}
use Rattle.basics.proofs.Booleans.{test-true, both_true, never-passes, less?}
use Rattle.trace.specs.declared.Operation.{Operation}
use Rattle.trace.specs.Premises.{HoldsTrace}
use Rattle.trace.specs.Reading.{trace_of}
use Rattle.trace.specs.Trace.{Trace, size, operation, is_write, is_access}
use Rattle.conflicts.specs.Intervals.{overlap}
use Rattle.conflicts.specs.Conflict.{in_conflict}
use Rattle.words.specs.Words.{is_in}
use Rattle.conflicts.specs.Cells.{bit, first_cell, last_cell, CellsFit, place, CellsHold, meet, met_at, ConflictsIn}
use Rattle.conflicts.specs.declared.Cells.{Cells}

-- ---- bits

pub bit-and : (x y : Bool) → bit_and (bit x) (bit y) ≡ bit (x && y)
bit-and true true = refl
bit-and true false = refl
bit-and false true = refl
bit-and false false = refl

-- ---- places in the arrays

pub place-below : (k : ℕ) → k < 1024 → place k < 1024
unfolding place
place-below k l = omega arith

-- k in parts
place-parts : (k : ℕ) → k ≡ 128 * (k / 128) + 32 * (k / 32 % 4) + k % 32
place-parts k = omega (arith, div-div-eq-div-mul k 32 4)

-- and a number put together of others
parts_same : (x y z x' y' z' : ℕ) → x * 128 + y * 4 + z ≡ x' * 128 + y' * 4 + z' → y < 32 → y' < 32 → z < 4 → z' < 4
    → (x ≡ x') × (y ≡ y') × (z ≡ z')
parts_same x y z x' y' z' e k l m n =
    let f : x ≡ x' = omega arith in
    let g : y ≡ y' = omega arith in
    (f, g, omega arith)

pub place-apart : (j k : ℕ) → j ≢ k → place j ≢ place k
unfolding place
place-apart j k d e =
    let (f, g, h) =
    parts_same (j / 128) (j % 32) (j / 32 % 4) (k / 128) (k % 32) (k / 32 % 4) e (omega arith) (omega arith)
    (omega arith) (omega arith) in
    d (omega (arith, f, g, h, place-parts j, place-parts k))

-- operation i of a block
pub place-block : (block i : ℕ) → i < 128 → place (128 * block + i) ≡ 128 * block + 4 * (i % 32) + i / 32
unfolding place
place-block block i l =
    let e : (128 * block + i) / 128 ≡ block = omega arith in
    let f : (128 * block + i) % 32 ≡ i % 32 = omega arith in
    let g : (128 * block + i) / 32 ≡ 4 * block + i / 32 = omega arith in
    let h : (4 * block + i / 32) % 4 ≡ i / 32 = omega arith in
    rw (e, f, g, h) (omega arith)

-- ---- the cells of an operation

-- at most the last number is below the end
below_end : (first last number end : ℕ) → first ≡ number → last + 1 ≡ end → leb first last ≡ ltb number end
below_end first last number end e f = elim (less? last first) [
  | inl l ↦ rw (lt-leb first last l, le-ltb number end (omega (arith, e, f)))
  | inr l ↦ rw (le-leb first last l, lt-ltb number end (omega (arith, e, f)))
]

module _ {o : Operation} (h : CellsFit o) where
  -- of a Read or Write
  cells-access : is_access o.kind ≡ true
      → (1 ≤ o.length) × (first_cell o ≡ o.number) × (last_cell o + 1 ≡ o.number + o.length)
  unfolding first_cell last_cell
  cells-access e = let some = (h.cells ((test-true (is_access o.kind)).0 e)).0 in (some, rw e, rw e (omega arith))

  cells-none : is_access o.kind ≡ false → (first_cell o ≡ 4294967295) × (last_cell o ≡ 0)
  unfolding first_cell last_cell
  cells-none e = (rw e, rw e)

  -- of any
  cells-span : last_cell o < first_cell o + 65535
  cells-span = go (is_access o.kind) refl
    where
      go : (r : Bool) → is_access o.kind ≡ r → last_cell o < first_cell o + 65535
      go true e = let (some, first, last) = cells-access e in omega (arith, first, last, h.short)
      go false e = let (first, last) = cells-none e in omega (arith, first, last)

  -- an operation whose first cell is above its last one is no Read or Write
  pub cells-apart : last_cell o < first_cell o → is_access o.kind ≡ false
  cells-apart l = never-passes (is_access o.kind) (λ e.
      let (some, first, last) = cells-access e in
      omega (arith, some, first, last, l))

-- of an operation of a file that reads as a trace, whose length has two bytes
pub operation-fits : {bytes : List ℕ} {p n k : ℕ} {o : Operation} → HoldsTrace bytes p n → k < n
    → o ≡ operation (trace_of bytes) k → o.length < 65536 → CellsFit o
operation-fits {k = k} h l i s = record { cells = rw i (h.each k l).cells; short = s }

-- ---- two operations in conflict, by their cells

module _ {x y : Operation} (h : CellsFit x) (i : CellsFit y) where
  abbrev met : Bool
  met = meet (first_cell x) (last_cell x) (first_cell y) (last_cell y)

  meet-overlap : is_access x.kind ≡ true → is_access y.kind ≡ true
      → met ≡ overlap x.number x.length y.number y.length
  unfolding overlap meet
  meet-overlap e f =
      let (some, first, last) = cells-access h e in
      let (other-some, other-first, other_last) = cells-access i f in
      rw (
        le-leb 1 x.length some,
        le-leb 1 y.length other-some,
        below_end (first_cell x) (last_cell y) x.number (y.number + y.length) first other_last,
        below_end (first_cell y) (last_cell x) y.number (x.number + x.length) other-first last,
      )

  -- where one is no Read or Write, they do not meet
  meets-not : (is_access x.kind && is_access y.kind) ≡ false → met ≡ false
  unfolding meet
  meets-not e = never-passes met (λ m. go (is_access x.kind) (is_access y.kind) refl refl e (orders m))
    where
      orders : met ≡ true → (first_cell x ≤ last_cell y) × (first_cell y ≤ last_cell x)
      orders m =
          let (before, after) = both_true (leb (first_cell x) (last_cell y)) (leb (first_cell y) (last_cell x)) m in
          (leb-true (first_cell x) (last_cell y) before, leb-true (first_cell y) (last_cell x) after)

      go : (r s : Bool) → is_access x.kind ≡ r → is_access y.kind ≡ s → (r && s) ≡ false
          → (first_cell x ≤ last_cell y) × (first_cell y ≤ last_cell x) → ⊥
      go true true u v f m = absurd (true≢false f)
      go true false u v f m = let (first, last) = cells-none i v in omega (arith, first, last, cells-span h, m)
      go false s u v f m = let (first, last) = cells-none h u in omega (arith, first, last, cells-span i, m)

  pub conflict-meet : ((is_write x.kind || is_write y.kind) && met) ≡ in_conflict x y
  unfolding in_conflict
  conflict-meet = go (is_access x.kind) (is_access y.kind) refl refl
    where
      go : (r s : Bool) → is_access x.kind ≡ r → is_access y.kind ≡ s
          → ((is_write x.kind || is_write y.kind) && met)
          ≡ (is_access x.kind && (is_access y.kind
          && ((is_write x.kind || is_write y.kind) && overlap x.number x.length y.number y.length)))
      go true true e f = rw (e, f, meet-overlap e f)
      go true false e f = rw (e, f, meets-not (rw (e, f))) (and-false (is_write x.kind || is_write y.kind))
      go false s e f = rw (e, meets-not (rw e)) (and-false (is_write x.kind || is_write y.kind))

-- ---- by what the arrays hold of them

module _ {t : Trace} {cells : Cells} (h : CellsHold t cells) {a : ℕ} (l : a < size t) where
  pub held_first : get_or cells.first (place a) 0 ≡ first_cell (operation t a)
  held_first = (h.each a l).the_first_cell

  pub held-last : get_or cells.last (place a) 0 ≡ last_cell (operation t a)
  held-last = (h.each a l).the_last_cell

  -- an operation whose first cell is above its last one is no Read or Write
  pub held-apart : last_cell (operation t a) < first_cell (operation t a) → is_access (operation t a).kind ≡ false
  held-apart = cells-apart (h.each a l).fit

  module _ {b : ℕ} (m : b < size t) where
    pub held-conflict : ((is_write (operation t a).kind || is_write (operation t b).kind)
        && meet (first_cell (operation t a)) (last_cell (operation t a)) (first_cell (operation t b))
        (last_cell (operation t b)))
        ≡ in_conflict (operation t a) (operation t b)
    held-conflict = conflict-meet (h.each a l).fit (h.each b m).fit

    -- where b is found to meet the cells of a
    pub held-met : met_at cells (first_cell (operation t a)) (last_cell (operation t a)) (place b)
        && (is_write (operation t a).kind || is_write (operation t b).kind)
        ≡ in_conflict (operation t a) (operation t b)
    held-met =
        rw ((h.each b m).the_first_cell, (h.each b m).the_last_cell)
        (and_comm (meet _ _ _ _) (is_write (operation t a).kind || is_write (operation t b).kind) ∙ held-conflict)

  -- those of a word
  pub held_word : {met v r i : ℕ} → ConflictsIn cells a met v r → i < 32 → 32 * v + i < size t
      → is_in r i ≡ is_in met i && (is_write (operation t a).kind || is_write (operation t (32 * v + i)).kind)
  held_word {met} {v} {r} {i} c k m = rw (c.each i k, (h.each a l).write, (h.each (32 * v + i) m).write)
