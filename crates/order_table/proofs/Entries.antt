-- What is in the lent table after the call. In order: after any call, the length; after success, the row
-- of an operation, what its entries count and tell, and what lies behind the rows.
use mathlib.Core.List.{List}
use mathlib.Core.Logic.{◌≢◌, ◌↔◌}
use mathlib.Core.Path.{◌≡◌, sym, ap, ◌∙◌}
use Prim.Native.Nat.{ℕ, ◌+◌, ◌*◌, ◌<◌, ◌≤◌}
use lib.ListN.{length, get_or, take, drop}
use lib.Seq.{get_or-take, get_or-drop}
use Rattle.runs.specs.Workers.{count}
use Rattle.trace.specs.Trace.{Trace, size, worker_of, rank}
use Rattle.model.specs.Computed.{row}
use Rattle.model.specs.LargestRuns.{MaximalExecution}
use Rattle.model.specs.Orders.{MustPrecedeIn}
use Rattle.model.specs.Rule.{WorkersKnown}
use Rattle.model.proofs.TableRows.{row-execution, row-must-precede}
use Rattle.accept.proofs.Questions.{accepted-workers}
use Rattle.lent.specs.Written.{written_over}
use Rattle.lent.proofs.Left.{left-length}
use Rattle.lent.proofs.Writing.{written-past}
use Rattle.order_table.specs.Refusals.{AcceptedTable}
use Rattle.table_rows.specs.Rows.{order_table}
use Rattle.order_table.specs.Table.{table_reading, table_after}
use Rattle.order_table.proofs.Questions.{table-comes-out}
use Rattle.order_table.proofs.Answers.{call_by}
use Rattle.table_rows.proofs.Rows.{rows-length, rows-part}

-- ---- after any call

pub after-length : (bytes lent : List ℕ) → length (table_after bytes lent) ≡ length lent
unfolding table_after
after-length bytes lent =
    left-length order_table (table_reading bytes (length lent)) (table-comes-out bytes (length lent)) lent
    (λ t f. rw (rows-length t (size t)) f.table_holds)

-- ---- after success

module _ {bytes : List ℕ} {t : Trace} (lent : List ℕ) (f : AcceptedTable bytes (length lent) t) where
  pub after_filled : table_after bytes lent ≡ written_over (order_table t) lent
  after_filled = sym (call_by bytes lent (((table-comes-out bytes (length lent)).passes t).1 f)).leaves

  known : WorkersKnown t
  known = accepted-workers f.accepted

  pub after-row : (k : ℕ) → k < size t → take t.workers (drop (k * t.workers) (table_after bytes lent)) ≡ row t k
  after-row k i = rw after_filled (rows-part t (size t) k (drop (length (order_table t)) lent) i)

  pub after-entry : (k q : ℕ) → k < size t → q < t.workers
      → get_or (table_after bytes lent) (k * t.workers + q) 0 ≡ get_or (row t k) q 0
  after-entry k q i j =
      sym (get_or-drop (k * t.workers) (table_after bytes lent) q 0)
      ∙ sym (get_or-take t.workers (drop (k * t.workers) (table_after bytes lent)) q 0 j)
      ∙ ap (λ (r : List ℕ). get_or r q 0) (after-row k i)

  -- entry q of row k is the number of worker q's operations in every maximal valid execution without k
  pub after-execution : (k q : ℕ) → k < size t → q < t.workers → (m : List ℕ) → MaximalExecution t k m
      → get_or (table_after bytes lent) (k * t.workers + q) 0 ≡ count (worker_of t) q m
  after-execution k q i j m e = after-entry k q i j ∙ row-execution known e q j

  -- x must precede y exactly if the entry of y's worker in row x is below y's rank
  pub after-must-precede : (x y : ℕ) → x ≢ y → x < size t → y < size t
      → MustPrecedeIn t x y ↔ (get_or (table_after bytes lent) (x * t.workers + worker_of t y) 0 < rank t y)
  after-must-precede x y d i j =
      let entry = after-entry x (worker_of t y) i (known.known y j) in
      rw entry (row-must-precede known x y d j)

  pub after-past : (i : ℕ) → size t * t.workers ≤ i → get_or (table_after bytes lent) i 0 ≡ get_or lent i 0
  after-past i j = rw after_filled (written-past (order_table t) lent 0 i (rw (rows-length t (size t)) j))
