-- Largest runs of a trace. In order: the theory's words are those of specs/LargestRuns; what Definition 1 of report
-- 1084 and document 01 say of the largest run without a, and of the largest run; complete runs; what is computed.
use mathlib.Core.List.Memᴰ
use mathlib.Core.List.{List, [], ◌∷◌, ◌++◌}
use mathlib.Core.Logic.Iff
use mathlib.Core.Logic.{inl, inr, ◌↔◌, ◌≢◌}
use mathlib.Core.Path.{◌≡◌, refl}
use native.Mathlib.Omega.{arith}
use Prim.Native.Nat.{ℕ, ◌≤◌, ◌<◌}
use lib.Dec.{T}
use lib.ListN.{length}
use Rattle.basics.specs.Membership.{◌∈◌, ◌∉◌, ◌⊆◌, SameOperations}
use Rattle.basics.proofs.Booleans.{equal?}
use Rattle.basics.proofs.Members.{here, in-by-contradiction, different-apart}
use Rattle.runs.specs.Maximal.{MaximalWithout, LargestWithout, Largest, Maximal}
use Rattle.runs.specs.Run.{Run}
use Rattle.runs.specs.Steps.{Addable, done}
use Rattle.runs.proofs.CarryOn.{maximal-exists, maximal-without-exists, carry-on}
use Rattle.runs.proofs.Done.{done-same}
use Rattle.runs.proofs.Exchange.{add-run}
use Rattle.runs.proofs.GreedyRuns.{greedy-maximal, greedy-without-maximal}
use Rattle.runs.proofs.MaximalRuns.{maximal-contains, maximal-same, maximal-largest, maximal-complete}
use Rattle.runs.proofs.RunSteps.{complete-length}
use Rattle.runs.proofs.RunsWithout.{maximal-without-largest, maximal-without-contains, maximal-without-same}
use Rattle.trace.specs.Trace.{Trace, size}
use Rattle.model.specs.Computed.{largest_run, largest_run_without}
use Rattle.model.specs.LargestRuns.{MaximalExecution, ContainsAllowed, LargestRunWithout, LargestRun}
use Rattle.model.specs.Rule.{rule, WorkersKnown}
use Rattle.model.specs.Runs.{Earlier, Waits, PostFor, RunOf, CompleteRunOf, CarriedOn}
use Rattle.model.proofs.RuleLaws.{rule-monotone, order-preference}
use Rattle.model.proofs.TraceRuns.{may-means, run-means, longer-carries-on, complete-means}

module _ (t : Trace) where
  -- ---- the theory's words

  pub execution-means : {a : ℕ} {m : List ℕ} → MaximalWithout (rule t) a m ↔ MaximalExecution t a m
  execution-means = (
    λ k. record {
      is_a_run = (run-means t).0 k.is_a_run;
      lacks = k.lacks;
      maximal = λ x p. k.maximal x ((run-means t).1 p);
    },
    λ k. record {
      is_a_run = (run-means t).1 k.is_a_run;
      lacks = k.lacks;
      maximal = λ x p. k.maximal x ((run-means t).0 p);
    },
  )

  largest-without-means : {a : ℕ} {m : List ℕ} → LargestWithout (rule t) a m ↔ LargestRunWithout t a m
  largest-without-means = (
    λ k. record {
      is_a_run = (run-means t).0 k.is_a_run;
      lacks = k.lacks;
      most = λ r p n. k.most r ((run-means t).1 p) n;
    },
    λ k. record {
      is_a_run = (run-means t).1 k.is_a_run;
      lacks = k.lacks;
      most = λ r p n. k.most r ((run-means t).0 p) n;
    },
  )

  largest-means : {m : List ℕ} → Maximal (rule t) m ↔ LargestRun t m
  largest-means {m} = Iff.trans (maximal-largest (rule-monotone t)) (forth, back)
    where
      forth : Largest (rule t) m → LargestRun t m
      forth k = record { is_a_run = (run-means t).0 k.is_a_run; most = λ r p. k.most r ((run-means t).1 p) }

      back : LargestRun t m → Largest (rule t) m
      back k = record { is_a_run = (run-means t).1 k.is_a_run; most = λ r p. k.most r ((run-means t).0 p) }

  -- ---- the largest run without a

  -- a maximal valid execution and "the run lacking a with the most operations" are the same
  pub execution-largest : {a : ℕ} {m : List ℕ} → MaximalExecution t a m ↔ LargestRunWithout t a m
  execution-largest =
      Iff.trans (Iff.symm execution-means)
      (Iff.trans (maximal-without-largest (rule-monotone t)) largest-without-means)

  -- and it is Definition 1 of report 1084 in the report's words
  pub execution-definition : {a : ℕ} {m : List ℕ}
      → MaximalExecution t a m ↔ (RunOf t m × (a ∉ m) × ContainsAllowed t a m)
  execution-definition {a} {m} = (forth, λ p. back p.0 p.1 p.2)
    where
      forth : MaximalExecution t a m → RunOf t m × (a ∉ m) × ContainsAllowed t a m
      forth k = (k.is_a_run, k.lacks, record { contains = contains })
        where
          contains : (x : ℕ) → x < size t → x ≢ a → ((y : ℕ) → Earlier t y x → y ∈ m)
              → (Waits t x → (y : ℕ) × (y ∈ m) × PostFor t x y) → x ∈ m
          contains x l d turn post = in-by-contradiction x m (λ n. d (k.maximal x ((run-means t).0 (longer n))))
            where
              may : T ((rule t).may m x)
              may = (may-means t m x).1 (turn, record { posted = post })

              add : x ∉ m → Addable (rule t) (done [] m) x
              add n =
                  record {
                    below = l;
                    new = λ i. n ((done-same m).forth.all i);
                    allowed = (rule-monotone t).keeps x (done-same m).back may;
                  }

              longer : x ∉ m → Run (rule t) (m ++ x ∷ [])
              longer n = add-run (rule-monotone t) ((run-means t).1 k.is_a_run) (add n)

      back : RunOf t m → a ∉ m → ContainsAllowed t a m → MaximalExecution t a m
      back p n c = record { is_a_run = p; lacks = n; maximal = maximal }
        where
          twice : (x : ℕ) → RunOf t (m ++ x ∷ []) → x ≢ a → ⊥
          twice x q d =
              let h = (may-means t m x).0 (((run-means t).1 q).allowed m [] x refl) in
              let l = q.operations (Memᴰ.append_right m here) in
              different-apart m [] x q.different (c.contains x l d h.0 h.1.posted)

          maximal : (x : ℕ) → RunOf t (m ++ x ∷ []) → x ≡ a
          maximal x q = elim (equal? x a) [ inl e ↦ e | inr d ↦ absurd (twice x q d) ]

  -- it "contains every run lacking a"
  pub execution-contains : {a : ℕ} {m r : List ℕ} → MaximalExecution t a m → RunOf t r → a ∉ r → r ⊆ m
  execution-contains k p n = maximal-without-contains (rule-monotone t) (execution-means.1 k) ((run-means t).1 p) n

  -- "its set is unique"
  pub execution-same : {a : ℕ} {m k : List ℕ} → MaximalExecution t a m → MaximalExecution t a k → SameOperations m k
  execution-same p q = maximal-without-same (rule-monotone t) (execution-means.1 p) (execution-means.1 q)

  -- there is one
  pub execution-exists : (a : ℕ) → (m : List ℕ) × MaximalExecution t a m
  execution-exists a = let e = maximal-without-exists (rule-monotone t) a in (e.0, execution-means.0 e.1)

  -- ---- "the same with nothing excluded"

  pub largest-contains : {m r : List ℕ} → LargestRun t m → RunOf t r → r ⊆ m
  largest-contains k p = maximal-contains (rule-monotone t) (largest-means.1 k) ((run-means t).1 p)

  pub largest-same : {m k : List ℕ} → LargestRun t m → LargestRun t k → SameOperations m k
  largest-same p q = maximal-same (rule-monotone t) (largest-means.1 p) (largest-means.1 q)

  pub largest-exists : (m : List ℕ) × LargestRun t m
  largest-exists = let e = maximal-exists (rule-monotone t) in (e.0, largest-means.0 e.1)

  -- a maximal valid execution without a number that no operation has is a largest run
  pub execution-nothing : {a : ℕ} {m : List ℕ} → size t ≤ a → MaximalExecution t a m ↔ LargestRun t m
  execution-nothing {a} {m} above = Iff.trans execution-largest (forth, back)
    where
      lacks : {r : List ℕ} → RunOf t r → a ∉ r
      lacks p i = omega (arith, p.operations i)

      forth : LargestRunWithout t a m → LargestRun t m
      forth k = record { is_a_run = k.is_a_run; most = λ r p. k.most r p (lacks p) }

      back : LargestRun t m → LargestRunWithout t a m
      back k = record { is_a_run = k.is_a_run; lacks = lacks k.is_a_run; most = λ r p n. k.most r p }

  -- ---- complete runs

  -- where there is a complete run, every largest run is complete
  pub largest-complete : {m c : List ℕ} → LargestRun t m → CompleteRunOf t c → CompleteRunOf t m
  largest-complete k c =
      (complete-means t).0 (maximal-complete (rule-monotone t) (largest-means.1 k) ((complete-means t).1 c))

  -- a complete run has n operations
  pub complete-run-length : {r : List ℕ} → CompleteRunOf t r → length r ≡ size t
  complete-run-length c = complete-length ((complete-means t).1 c)

  -- where there is one, every run can be carried on to a complete one
  pub carried_on : {r c : List ℕ} → RunOf t r → CompleteRunOf t c
      → (s : List ℕ) × CarriedOn t r s × CompleteRunOf t (r ++ s)
  carried_on p c =
      let e = carry-on (rule-monotone t) ((run-means t).1 p) ((complete-means t).1 c) in
      let complete = (complete-means t).0 e.1 in
      (e.0, longer-carries-on t complete.is_a_run, complete)

-- ---- what is computed

module _ {t : Trace} (w : WorkersKnown t) where
  pub largest_run-largest : LargestRun t (largest_run t)
  unfolding largest_run
  largest_run-largest = (largest-means t).0 (greedy-maximal (rule-monotone t) (order-preference w))

  pub largest_run_without-execution : (a : ℕ) → MaximalExecution t a (largest_run_without t a)
  unfolding largest_run_without
  largest_run_without-execution a =
      (execution-means t).0 (greedy-without-maximal (rule-monotone t) (order-preference w) a)
