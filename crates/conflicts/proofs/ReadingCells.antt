-- The loop that fills the arrays of cells. In order: the start; the cells of one more operation; the end.
use mathlib.Core.Bool.{Bool}
use mathlib.Core.List.{List}
use mathlib.Core.Logic.{inl, inr}
use mathlib.Core.Path.{◌≡◌, ap, ◌∙◌}
use native.Mathlib.Omega.{arith}
use Prim.Native.Nat.{ℕ, ◌+◌, ◌*◌, ◌-◌, ◌/◌, ◌%◌, ◌^◌, ◌<◌, ◌≤◌, min}
use lib.ListN.{length, get_or, set}
use lib.Seq.{get_or-set_same, get_or-set_other}
use Rattle.basics.proofs.Booleans.{equal?}
use Rattle.trace.specs.declared.Operation.{Operation}
use Rattle.trace.specs.Trace.{Trace, size, operation, is_write}
use Rattle.words.specs.Words.{word_of}
use Rattle.words.proofs.Sets.{word-few, word_in}
use Rattle.conflicts.specs.Cells.{bit, BitFits, first_cell, last_cell, CellsFit, place, marked, CellsAt, CellsHold}
use Rattle.conflicts.specs.Cells.{writes_from, CellsRead}
use Rattle.conflicts.specs.declared.Cells.{Cells}
use Rattle.conflicts.proofs.CellTests.{place-below, place-apart}
use Rattle.conflicts.proofs.MetWords.{bit-few, word_more}

-- ---- the start

pub read-start : {t : Trace} {cells : Cells} → ((v : ℕ) → v < 32 → get_or cells.writes v 0 ≡ 0) → CellsRead t 0 cells
unfolding word_of
read-start none =
    record {
      fit = λ j l. absurd (omega arith);
      the_first_cell = λ j l. absurd (omega arith);
      the_last_cell = λ j l. absurd (omega arith);
      marks = λ v l. let e : min 32 (0 - 32 * v) ≡ 0 = omega arith in rw e (none v l);
    }

-- ---- the cells of one more operation

module _ {t : Trace} {k : ℕ} {cells : Cells} (r : CellsRead t k cells) (l : k < 1024) where
  -- the word of k holds the bits of the operations before it
  word-before : get_or cells.writes (k / 32) 0 ≡ word_of (writes_from t (k / 32)) (k % 32)
  word-before =
      let e : min 32 (k - 32 * (k / 32)) ≡ k % 32 = omega arith in
      rw e at (r.marks (k / 32) (omega arith))

  pub mark-fits : {x : ℕ} (b : Bool) → x ≡ bit b → BitFits (get_or cells.writes (k / 32) 0) x (k % 32)
  mark-fits b e =
      record {
        few = rw word-before (word-few (writes_from t (k / 32)) (k % 32));
        low = rw e (bit-few b);
        inside = omega arith;
      }

  -- what is stored at its place, where the others stay
  stored-at : (f : Operation → ℕ) (values : List ℕ) {at x : ℕ} → length values ≡ 1024 → at ≡ place k
      → x ≡ f (operation t k) → ((j : ℕ) → j < k → get_or values (place j) 0 ≡ f (operation t j))
      → (j : ℕ) → j < k + 1 → get_or (set values at x) (place j) 0 ≡ f (operation t j)
  stored-at f values {at} {x} long p e before j i = elim (equal? j k) [
    | inl z ↦ rw (z, ← p, get_or-set_same values at x 0 (omega (arith, long, p, place-below k l))) e
    | inr d ↦
        rw (get_or-set_other values at (place j) x 0 (λ s. place-apart j k d (s ∙ p)))
        (before j (omega (arith, d)))
  ]

  pub read_more : {o : Operation} {at mark word : ℕ} → length cells.first ≡ 1024 → length cells.last ≡ 1024
      → length cells.writes ≡ 32 → o ≡ operation t k → CellsFit o → at ≡ place k → mark ≡ bit (is_write o.kind)
      → word ≡ get_or cells.writes (k / 32) 0 + mark * 2 ^ (k % 32)
      → CellsRead t (k + 1) (record {
        first = set cells.first at (first_cell o);
        last = set cells.last at (last_cell o);
        writes = set cells.writes (k / 32) word;
      })
  read_more {o} {at} {mark} {word} x y z same fits p m g =
      record {
        fit = λ j i. elim (equal? j k) [ inl e ↦ rw (e, ← same) fits | inr d ↦ r.fit j (omega (arith, d)) ];
        the_first_cell = stored-at first_cell cells.first x p (ap first_cell same) r.the_first_cell;
        the_last_cell = stored-at last_cell cells.last y p (ap last_cell same) r.the_last_cell;
        marks = marks;
      }
    where
      marks : (u : ℕ) → u < 32
          → get_or (set cells.writes (k / 32) word) u 0 ≡ word_of (writes_from t u) (min 32 (k + 1 - 32 * u))
      marks u i = elim (equal? u (k / 32)) [
        | inl e ↦
            let n : min 32 (k + 1 - 32 * (k / 32)) ≡ k % 32 + 1 = omega arith in
            let q : 32 * (k / 32) + k % 32 ≡ k = omega arith in
            let more = rw q at (word_more (writes_from t (k / 32)) (k % 32)) in
            rw (e, n, get_or-set_same cells.writes (k / 32) word 0 (omega (arith, z)), g, m, same, word-before) more
        | inr d ↦
            let n : min 32 (k + 1 - 32 * u) ≡ min 32 (k - 32 * u) = omega (arith, d) in
            rw (n, get_or-set_other cells.writes (k / 32) u word 0 d) (r.marks u i)
      ]

-- ---- the end

pub read-end : {t : Trace} {k : ℕ} {cells : Cells} → CellsRead t k cells → size t ≤ k → size t ≤ 1024
    → CellsHold t cells
read-end {t} {k} {cells} r h few = record { each = each }
  where
    write : (j : ℕ) → j < size t → marked cells j ≡ is_write (operation t j).kind
    write j i =
        let e : 32 * (j / 32) + j % 32 ≡ j = omega arith in
        rw (r.marks (j / 32) (omega arith))
        (word_in (writes_from t (j / 32)) (min 32 (k - 32 * (j / 32))) (j % 32) (omega arith) ∙ rw e)

    each : (j : ℕ) → j < size t → CellsAt (operation t j) cells j
    each j i =
        record {
          fit = r.fit j (omega arith);
          the_first_cell = r.the_first_cell j (omega arith);
          the_last_cell = r.the_last_cell j (omega arith);
          write = write j i;
        }
