-- A worker's operations in a trace, and the numbers of its operations, which the theory of runs speaks of. In order:
-- two lists one after the other; among a worker's operations; the first k operations; all of them; the rank.
use mathlib.Core.Bool.{Bool, true, false, cond}
use mathlib.Core.List.{List, [], ◌∷◌, ◌++◌, map, map-append}
use mathlib.Core.Logic.{◌≢◌}
use mathlib.Core.Path.{◌≡◌, refl, sym, ap, ◌∙◌}
use native.Mathlib.Omega.{arith}
use Prim.Native.Nat.{ℕ, zero, suc, ◌≤◌}
use lib.Dec.{eqb}
use lib.ListN.{length, take, length-map}
use lib.Seq.{take-suc, take-length}
use borrow.Author.Tests.{eqb-true, ne_eqb}
use Rattle.basics.specs.Membership.{up_to}
use Rattle.runs.specs.Workers.{count, earlier, operations_of}
use Rattle.runs.proofs.Places.{operations_of-length}
use Rattle.trace.specs.declared.Operation.{Operation}
use Rattle.trace.specs.Trace.{Trace, size, operation, no_operation, worker_of, of_worker, rank}

-- the operation if it is worker q's
of_worker-one : (q : ℕ) (o : Operation) → of_worker q (o ∷ []) ≡ cond (eqb o.worker q) (o ∷ []) []
unfolding of_worker
of_worker-one q o = refl

pub of_worker-append : (q : ℕ) (a b : List Operation) → of_worker q (a ++ b) ≡ of_worker q a ++ of_worker q b
unfolding of_worker
of_worker-append q [] b = refl
of_worker-append q (o ∷ a) b = go (eqb o.worker q) (of_worker-append q a b)
  where
    go : (t : Bool) → of_worker q (a ++ b) ≡ of_worker q a ++ of_worker q b
        → cond t (o ∷ of_worker q (a ++ b)) (of_worker q (a ++ b))
        ≡ cond t (o ∷ of_worker q a) (of_worker q a) ++ of_worker q b
    go true e = ap (λ (l : List Operation). o ∷ l) e
    go false e = e

-- among worker q's operations, all are worker q's
pub of_worker-own : (q : ℕ) (os : List Operation) → of_worker q (of_worker q os) ≡ of_worker q os
unfolding of_worker
of_worker-own q [] = refl
of_worker-own q (o ∷ os) = go (eqb o.worker q) refl (of_worker-own q os)
  where
    go : (b : Bool) → eqb o.worker q ≡ b → of_worker q (of_worker q os) ≡ of_worker q os
        → of_worker q (cond b (o ∷ of_worker q os) (of_worker q os)) ≡ cond b (o ∷ of_worker q os) (of_worker q os)
    go true e i = rw (e, i)
    go false e i = i

-- and among another worker's, none
pub of_worker-other : (q r : ℕ) (os : List Operation) → r ≢ q → of_worker q (of_worker r os) ≡ []
unfolding of_worker
of_worker-other q r [] d = refl
of_worker-other q r (o ∷ os) d = go (eqb o.worker r) refl (of_worker-other q r os d)
  where
    go : (b : Bool) → eqb o.worker r ≡ b → of_worker q (of_worker r os) ≡ []
        → of_worker q (cond b (o ∷ of_worker r os) (of_worker r os)) ≡ []
    go true e i = rw (ne_eqb o.worker q (λ f. d (sym (eqb-true o.worker r e) ∙ f)), i)
    go false e i = i

module _ (t : Trace) (q : ℕ) where
  -- worker q's among the first k operations are those with its numbers below k
  pub of_worker-first : (k : ℕ) → k ≤ size t
      → of_worker q (take k t.operations) ≡ map (operation t) (operations_of (worker_of t) q k)
  unfolding of_worker
  of_worker-first zero h = refl
  of_worker-first (suc k) h =
      rw (take-suc t.operations k no_operation h, of_worker-append, of_worker-first k (omega arith), of_worker-one)
      (simp (map-append, one (eqb (worker_of t k) q)))
    where
      one : (b : Bool) → map (operation t) (cond b (k ∷ []) []) ≡ cond b (operation t k ∷ []) []
      one true = refl
      one false = refl

  -- worker q's operations are those with its numbers
  pub of_worker-numbers : of_worker q t.operations ≡ map (operation t) (operations_of (worker_of t) q (size t))
  of_worker-numbers = rw take-length at (of_worker-first (size t) (omega arith))

  -- as many as it has numbers
  pub of_worker-count : length (of_worker q t.operations) ≡ count (worker_of t) q (up_to (size t))
  of_worker-count = ap length of_worker-numbers ∙ simp length-map (operations_of-length (worker_of t) q (size t))

-- the rank is one more than the worker's earlier operations
pub rank-earlier : (t : Trace) (k : ℕ) → k ≤ size t → rank t k ≡ suc (earlier (worker_of t) k)
rank-earlier t k h =
    let q = worker_of t k in
    ap suc (ap length (of_worker-first t q k h) ∙ simp length-map (operations_of-length (worker_of t) q k))
