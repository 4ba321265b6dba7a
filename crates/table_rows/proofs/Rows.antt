-- Writing the order table. In order: the rows, each in its part; a row that is written, and what is then in the table;
-- the rows of one operation more; all rows.
use mathlib.Core.List.{List, ◌++◌, append_assoc}
use mathlib.Core.Logic.{◌⊎◌, inl, inr, ◌≢◌}
use mathlib.Core.Path.{◌≡◌, sym, ap, ◌∙◌}
use native.Mathlib.Nat.{zero-mul, suc-mul, mul-le-mul_right, mod-lt, div-add-mod', div-lt_iff_lt-mul}
use native.Mathlib.Omega.{arith}
use Prim.Native.Nat.{ℕ, zero, suc, ◌+◌, ◌-◌, ◌*◌, ◌/◌, ◌%◌, ◌<◌, ◌≤◌}
use lib.ListN.{length, get_or, take, drop, length-append, length-drop, get_or-append}
use lib.Seq.{take_at, drop_at, get_or-take, get_or-drop, get_or-append-add, length-take-le, ext_get_or}
use Rattle.basics.proofs.Booleans.{equal?, less?}
use Rattle.trace.specs.Trace.{Trace, size}
use Rattle.index.specs.Indexed.{Places}
use Rattle.index.proofs.Lookups.{part_at}
use Rattle.model.specs.Computed.{row}
use Rattle.model.proofs.TableRows.{row-length}
use Rattle.lent.specs.Written.{written_over}
use Rattle.lent.proofs.Writing.{written-length, written-past}
use Rattle.table_rows.specs.Filling.{row_put, place_of, RowsTo}
use Rattle.table_rows.specs.Rows.{rows, order_table}

-- ---- the rows

pub rows-length : (t : Trace) (k : ℕ) → length (rows t k) ≡ k * t.workers
unfolding rows
rows-length t zero = sym (zero-mul t.workers)
rows-length t (suc k) = rw (length-append, rows-length t k, row-length t k, suc-mul)

-- among the first m rows, whatever is behind them: the p numbers from k × p on
pub rows-part : (t : Trace) (m k : ℕ) (rest : List ℕ) → k < m
    → take t.workers (drop (k * t.workers) (rows t m ++ rest)) ≡ row t k
unfolding rows
rows-part t zero k rest l = absurd (omega arith)
rows-part t (suc m) k rest l = rw append_assoc (go (equal? k m) (rows-part t m k (row t m ++ rest)))
  where
    go : (k ≡ m) ⊎ (k ≢ m)
        → (k < m → take t.workers (drop (k * t.workers) (rows t m ++ (row t m ++ rest))) ≡ row t k)
        → take t.workers (drop (k * t.workers) (rows t m ++ (row t m ++ rest))) ≡ row t k
    go (inl e) f =
        rw (e, drop_at (rows t m) (row t m ++ rest) (m * t.workers) (rows-length t m))
        (take_at (row t m) rest t.workers (row-length t m))
    go (inr e) f = f (omega (arith, e))

-- so, entry by entry
rows-entry : (t : Trace) (k q : ℕ) (rest : List ℕ) → k < size t → q < t.workers
    → get_or (order_table t ++ rest) (k * t.workers + q) 0 ≡ get_or (row t k) q 0
rows-entry t k q rest l i =
    sym (get_or-drop (k * t.workers) (order_table t ++ rest) q 0)
    ∙ sym (get_or-take t.workers (drop (k * t.workers) (order_table t ++ rest)) q 0 i)
    ∙ ap (λ (r : List ℕ). get_or r q 0) (rows-part t (size t) k rest l)

-- ---- a row that is written

module _ (p k : ℕ) (counts table : List ℕ) (long : length counts ≡ p) (room : k * p + p ≤ length table) where
  front : length (take (k * p) table) ≡ k * p
  front = length-take-le (k * p) table (omega (arith, room))

  pub put-length : length (row_put p k counts table) ≡ length table
  put-length = simp (length-append, length-drop) (omega (arith, front, long, room))

  -- its numbers
  put_in : (q : ℕ) → q < p → get_or (row_put p k counts table) (k * p + q) 0 ≡ get_or counts q 0
  put_in q l =
      rw front at (get_or-append-add (take (k * p) table) (counts ++ drop p (drop (k * p) table)) q 0)
      ∙ get_or-append counts _ 0 q (omega (arith, l, long))

  -- before and behind it all is as it was
  put-before : (i : ℕ) → i < k * p → get_or (row_put p k counts table) i 0 ≡ get_or table i 0
  put-before i l =
      get_or-append (take (k * p) table) _ 0 i (omega (arith, l, front)) ∙ get_or-take (k * p) table i 0 l

  put-behind : (i : ℕ) → k * p + p ≤ i → get_or (row_put p k counts table) i 0 ≡ get_or table i 0
  put-behind i l =
      let rest = drop p (drop (k * p) table) in
      let j = i - (k * p + p) in
      let e : k * p + (p + j) ≡ i = omega (arith, l) in
      rw e at (
      rw front at (get_or-append-add (take (k * p) table) (counts ++ rest) (p + j) 0)
      ∙ (rw long at (get_or-append-add counts rest j 0))
      ∙ get_or-drop p (drop (k * p) table) j 0
      ∙ get_or-drop (k * p) table (p + j) 0)

-- ---- the rows of one operation more

-- an operation stands at its place
module _ {t : Trace} {n : ℕ} {order starts : List ℕ} (i : Places t n order starts) where
  abbrev w : ℕ
  w = t.workers

  place_in : (k : ℕ) → k < size t → (place_of t starts k < n) × (get_or order (place_of t starts k) 0 ≡ k)
  place_in k l = part_at i k (rw i.count at l)

  -- row k, which has room, is written, and k stands at the place `at`
  pub rows_more : {at k : ℕ} {old now counts : List ℕ} → RowsTo t starts at old now → k < size t
      → place_of t starts k ≡ at → counts ≡ row t k → k * t.workers + t.workers ≤ length now
      → RowsTo t starts (at + 1) old (row_put t.workers k counts now)
  rows_more {at} {k} {old} {now} {counts} r l e c room =
      record {
        same_length = put-length w k counts now long room ∙ r.same_length;
        rows = each;
        past = λ j m. put-behind w k counts now long room j (omega (arith, m, last)) ∙ r.past j m;
      }
    where
      long : length counts ≡ w
      long = rw c (row-length t k)

      last : k * w + w ≤ size t * w
      last = omega (arith, suc-mul k w, mul-le-mul_right w l)

      -- another row lies before or behind
      other : (x q : ℕ) → x ≢ k → q < w → get_or (row_put w k counts now) (x * w + q) 0 ≡ get_or now (x * w + q) 0
      other x q d j = elim (less? x k) [
        | inl m ↦
            put-before w k counts now long room (x * w + q) (omega (arith, j, suc-mul x w, mul-le-mul_right w m))
        | inr m ↦
            let above : suc k ≤ x = omega (arith, m, d) in
            put-behind w k counts now long room (x * w + q) (omega (arith, j, suc-mul k w, mul-le-mul_right w above))
      ]

      each : (x q : ℕ) → x < size t → place_of t starts x < at + 1 → q < w
          → get_or (row_put w k counts now) (x * w + q) 0 ≡ get_or (row t x) q 0
      each x q below m j = elim (equal? x k) [
        | inl z ↦ rw (z, ← c) (put_in w k counts now long room q j)
        | inr d ↦ other x q d j ∙ r.rows x q below (earlier-place d) j
      ]
        where
          earlier-place : x ≢ k → place_of t starts x < at
          earlier-place d = elim (equal? (place_of t starts x) at) [
            | inl z ↦
                let same : x ≡ k = sym (place_in x below).1
                ∙ ap (λ (y : ℕ). get_or order y 0) (z ∙ sym e)
                ∙ (place_in k l).1 in
                absurd (d same)
            | inr z ↦ omega (arith, m, z)
          ]

  -- ---- all rows

  pub rows_all : {at : ℕ} {old now : List ℕ} → RowsTo t starts at old now → at ≡ n → size t * t.workers ≤ length old
      → now ≡ written_over (order_table t) old
  rows_all {at} {old} {now} r e room =
      let long = written-length (order_table t) old fits in
      ext_get_or 0 now (written_over (order_table t) old) (r.same_length ∙ sym long) each
    where
      fits : length (order_table t) ≤ length old
      fits = rw (rows-length t (size t)) room

      filled : (j : ℕ) → j < size t * w → get_or now j 0 ≡ get_or (written_over (order_table t) old) j 0
      filled j l =
          let some : 0 < w = go (less? 0 w) in
          let k = j / w in
          let q = j % w in
          let same : k * w + q ≡ j = div-add-mod' j w in
          let below : k < size t = (div-lt_iff_lt-mul some).1 l in
          let lower : q < w = mod-lt j some in
          rw same at (
          r.rows k q below (omega (arith, e, (place_in k below).0)) lower
          ∙ sym (rows-entry t k q (drop (length (order_table t)) old) below lower))
        where
          go : (0 < w) ⊎ (w ≤ 0) → 0 < w
          go (inl z) = z
          go (inr z) =
              let none : w ≡ 0 = omega arith in
              absurd (omega (arith, rw none at l))

      each : (j : ℕ) → j < length now → get_or now j 0 ≡ get_or (written_over (order_table t) old) j 0
      each j l = elim (less? j (size t * w)) [
        | inl m ↦ filled j m
        | inr m ↦ r.past j m ∙ sym (written-past (order_table t) old 0 j (rw (rows-length t (size t)) m))
      ]
