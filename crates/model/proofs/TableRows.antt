-- The rows of the order table. In order: their length and entries; each entry counts, whichever maximal valid execution
-- without k is taken; what a row tells of the certain order, by ranks, and by another row.
use mathlib.Core.List.{List, [], ◌∷◌}
use mathlib.Core.Logic.{◌⊎◌, inl, inr, ◌↔◌, ◌≢◌}
use mathlib.Core.Path.{◌≡◌, refl, ◌∙◌}
use native.Mathlib.Omega.{arith}
use Prim.Native.Nat.{ℕ, zero, suc, ◌<◌, ◌≤◌}
use lib.Dec.{T, leb}
use lib.ListN.{length, get_or, length-append, get_or-append}
use lib.Seq.{get_or-append_seam}
use borrow.Author.Tests.{leb-true, le-leb}
use Rattle.basics.proofs.Booleans.{equal?, test-true, test-equal}
use Rattle.runs.specs.MustPrecede.{MustPrecede}
use Rattle.runs.specs.Workers.{count, earlier}
use Rattle.runs.proofs.Rows.{row_same, must-precede-row, must-precede-earlier, row-own}
use Rattle.trace.specs.Trace.{Trace, size, worker_of, rank}
use Rattle.model.specs.Computed.{largest_run_without, counts_of, row, must_precede_in}
use Rattle.model.specs.LargestRuns.{MaximalExecution}
use Rattle.model.specs.Orders.{MustPrecedeIn}
use Rattle.model.specs.Rule.{rule, WorkersKnown}
use Rattle.model.specs.Runs.{CompleteRunOf}
use Rattle.model.proofs.Largest.{execution-means, largest_run_without-execution}
use Rattle.model.proofs.RuleLaws.{rule-monotone, rule-in-turn}
use Rattle.model.proofs.SharedOrder.{must-precede-means, must-precede-in-test}
use Rattle.model.proofs.TraceRuns.{complete-means}
use Rattle.model.proofs.WorkerOperations.{rank-earlier}

-- ---- length and entries

module _ (t : Trace) where
  counts-length : (r : List ℕ) (q : ℕ) → length (counts_of t r q) ≡ q
  counts-length r zero = refl
  counts-length r (suc q) = simp length-append (omega (arith, counts-length r q))

  counts-entry : (r : List ℕ) (q k : ℕ) → q < k → get_or (counts_of t r k) q 0 ≡ count (worker_of t) q r
  counts-entry r q zero l = absurd (omega arith)
  counts-entry r q (suc k) l = go (equal? q k) (counts-entry r q k)
    where
      last : get_or (counts_of t r (suc k)) k 0 ≡ count (worker_of t) k r
      last = rw (counts-length r k) at (get_or-append_seam (counts_of t r k) (count (worker_of t) k r) [] 0)

      go : (q ≡ k) ⊎ (q ≢ k) → (q < k → get_or (counts_of t r k) q 0 ≡ count (worker_of t) q r)
          → get_or (counts_of t r (suc k)) q 0 ≡ count (worker_of t) q r
      go (inl e) f = rw e last
      go (inr e) f =
          let below : q < k = omega (arith, e) in
          get_or-append (counts_of t r k) (count (worker_of t) k r ∷ []) 0 q (omega (arith, counts-length r k))
          ∙ f below

  pub row-length : (k : ℕ) → length (row t k) ≡ t.workers
  unfolding row
  row-length k = counts-length _ t.workers

  pub row-entry : (k q : ℕ) → q < t.workers → get_or (row t k) q 0 ≡ count (worker_of t) q (largest_run_without t k)
  unfolding row
  row-entry k q l = counts-entry (largest_run_without t k) q t.workers l

-- ---- whichever maximal valid execution is taken

module _ {t : Trace} (w : WorkersKnown t) where
  pub row-execution : {k : ℕ} {m : List ℕ} → MaximalExecution t k m → (q : ℕ) → q < t.workers
      → get_or (row t k) q 0 ≡ count (worker_of t) q m
  row-execution {k} p q l =
      row-entry t k q l
      ∙ row_same (rule-monotone t) (worker_of t)
      ((execution-means t).1 (largest_run_without-execution w k))
      ((execution-means t).1 p)
      q

  -- ---- the certain order: b's worker's entry in row a is below b's rank

  pub row-must-precede : (a b : ℕ) → a ≢ b → b < size t
      → MustPrecedeIn t a b ↔ (get_or (row t a) (worker_of t b) 0 < rank t b)
  row-must-precede a b d l = (
    λ p. omega (arith, entry, rank-earlier t b (omega arith), test.0 ((must-precede-means t).1 p)),
    λ h. (must-precede-means t).0 (test.1 (omega (arith, entry, rank-earlier t b (omega arith)))),
  )
    where
      m : List ℕ
      m = largest_run_without t a

      test : MustPrecede (rule t) a b ↔ (count (worker_of t) (worker_of t b) m ≤ earlier (worker_of t) b)
      test =
          must-precede-row (rule-monotone t) (rule-in-turn t) d
          ((execution-means t).1 (largest_run_without-execution w a))

      entry : get_or (row t a) (worker_of t b) 0 ≡ count (worker_of t) (worker_of t b) m
      entry = row-entry t a (worker_of t b) (w.known b l)

  -- where there is a complete run, b's worker's entry in row b is one below b's rank, so that rows can be compared

  module _ {c : List ℕ} (complete : CompleteRunOf t c) where
    pub row-rank : (b : ℕ) → b < size t → suc (get_or (row t b) (worker_of t b) 0) ≡ rank t b
    row-rank b l = omega (arith, entry, own, rank-earlier t b (omega arith))
      where
        m : List ℕ
        m = largest_run_without t b

        own : count (worker_of t) (worker_of t b) m ≡ earlier (worker_of t) b
        own =
            row-own (rule-monotone t) (rule-in-turn t) ((complete-means t).1 complete) l
            ((execution-means t).1 (largest_run_without-execution w b))

        entry : get_or (row t b) (worker_of t b) 0 ≡ count (worker_of t) (worker_of t b) m
        entry = row-entry t b (worker_of t b) (w.known b l)

    pub rows-must-precede : (a b : ℕ) → a ≢ b → b < size t
        → must_precede_in t a b ≡ leb (get_or (row t a) (worker_of t b) 0) (get_or (row t b) (worker_of t b) 0)
    rows-must-precede a b d l = test-equal (must_precede_in t a b) (leb x y) forth back
      where
        x : ℕ
        x = get_or (row t a) (worker_of t b) 0

        y : ℕ
        y = get_or (row t b) (worker_of t b) 0

        test : MustPrecedeIn t a b ↔ (x < rank t b)
        test = row-must-precede a b d l

        rank_is : suc y ≡ rank t b
        rank_is = row-rank b l

        forth : T (must_precede_in t a b) → T (leb x y)
        forth p =
            let below : x < rank t b = test.0 ((must-precede-in-test w a b).0 p) in
            (test-true (leb x y)).0 (le-leb x y (omega (arith, below, rank_is)))

        back : T (leb x y) → T (must_precede_in t a b)
        back h =
            let le : x ≤ y = leb-true x y ((test-true (leb x y)).1 h) in
            (must-precede-in-test w a b).1 (test.1 (omega (arith, le, rank_is)))

-- a worker's earlier operations are certain before its later ones
pub earlier-must-precede : (t : Trace) {a b : ℕ} → worker_of t a ≡ worker_of t b → a < b → MustPrecedeIn t a b
earlier-must-precede t e l = (must-precede-means t).0 (must-precede-earlier (rule-monotone t) (rule-in-turn t) e l)
