-- Question 10 and its place. In order: the first number that a list lacks; the lowest operation outside the largest
-- run; there is none exactly if the largest run is complete.
use mathlib.Core.Bool.{Bool, true, false, cond}
use mathlib.Core.List.{List}
use mathlib.Core.Logic.{◌⊎◌, inl, inr, ◌↔◌, ◌≢◌}
use mathlib.Core.Path.{◌≡◌, refl}
use native.Mathlib.Nat.{zero-add}
use native.Mathlib.Omega.{arith}
use Prim.Native.Nat.{ℕ, zero, suc, ◌+◌, ◌<◌, ◌≤◌}
use Rattle.basics.specs.Membership.{◌∈◌, ◌∉◌, mem}
use Rattle.basics.proofs.Booleans.{equal?, less?}
use Rattle.basics.proofs.Members.{mem-test}
use Rattle.trace.specs.Trace.{Trace, size}
use Rattle.model.specs.Computed.{largest_run, first_missing, first_outside}
use Rattle.model.specs.LargestRuns.{LargestRun, LowestOutside}
use Rattle.model.specs.Runs.{CompleteRunOf}
use Rattle.model.specs.Rule.{WorkersKnown}
use Rattle.model.proofs.Largest.{largest-same, largest-complete, largest_run-largest}

-- ---- the first of the numbers from k to `end` that the list lacks; `end` where it lacks none

pub record FirstMissing (r : List ℕ) (k end x : ℕ) : Type 0 where
  pub from : k ≤ x
  pub upto : x ≤ end
  pub before : {j : ℕ} → k ≤ j → j < x → j ∈ r
  pub missing : x < end → x ∉ r

pub missing-unique : {r : List ℕ} {k end x y : ℕ} → FirstMissing r k end x → FirstMissing r k end y → x ≡ y
missing-unique {x = x} {y = y} f g = go (less? x y) (less? y x)
  where
    go : (x < y) ⊎ (y ≤ x) → (y < x) ⊎ (x ≤ y) → x ≡ y
    go (inl h) i = absurd (f.missing (omega (arith, g.upto)) (g.before f.from h))
    go (inr h) (inl i) = absurd (g.missing (omega (arith, f.upto)) (f.before g.from i))
    go (inr h) (inr i) = omega arith

pub missing-is : (r : List ℕ) (k left : ℕ) → FirstMissing r k (k + left) (first_missing r k left)
missing-is r k zero =
    record {
      from = omega arith;
      upto = omega arith;
      before = λ h l. absurd (omega arith);
      missing = λ l. absurd (omega arith);
    }
missing-is r k (suc left) = go (mem k r) refl (missing-is r (suc k) left)
  where
    go : (b : Bool) → mem k r ≡ b → FirstMissing r (suc k) (suc k + left) (first_missing r (suc k) left)
        → FirstMissing r k (k + suc left) (cond b (first_missing r (suc k) left) k)
    go true e f =
        record {
          from = omega (arith, f.from);
          upto = omega (arith, f.upto);
          before = λ {j} h l. inside j h l (equal? j k);
          missing = λ l. f.missing (omega arith);
        }
      where
        inside : (j : ℕ) → k ≤ j → j < first_missing r (suc k) left → (j ≡ k) ⊎ (j ≢ k) → j ∈ r
        inside j h l (inl i) = rw i ((mem-test k r).0 (rw e tt))
        inside j h l (inr n) = f.before (omega (arith, n)) l
    go false e f =
        record {
          from = omega arith;
          upto = omega arith;
          before = λ h l. absurd (omega arith);
          missing = λ l m. rw e at ((mem-test k r).1 m);
        }

-- ---- the lowest operation outside the largest run

pub outside-missing : (t : Trace) → FirstMissing (largest_run t) 0 (size t) (first_outside t)
unfolding first_outside
outside-missing t = rw zero-add at (missing-is (largest_run t) 0 (size t))

module _ {t : Trace} (w : WorkersKnown t) where
  -- where it is an operation, it is the lowest outside every largest run, and the only one
  pub outside-place : (k : ℕ) → ((k ≡ first_outside t) × (k < size t)) ↔ LowestOutside t k
  outside-place k = (λ p. forth p.0 p.1, λ o. (missing-unique (first o) (outside-missing t), o.operation))
    where
      forth : k ≡ first_outside t → k < size t → LowestOutside t k
      forth e h = record { operation = h; outside = outside; lowest = lowest }
        where
          missing : FirstMissing (largest_run t) 0 (size t) k
          missing = rw e (outside-missing t)

          outside : (m : List ℕ) → LargestRun t m → k ∉ m
          outside m l i = missing.missing h ((largest-same t l (largest_run-largest w)).forth.all i)

          lowest : (m : List ℕ) → LargestRun t m → (j : ℕ) → j < k → j ∈ m
          lowest m l j i = (largest-same t (largest_run-largest w) l).forth.all (missing.before (omega arith) i)

      first : LowestOutside t k → FirstMissing (largest_run t) 0 (size t) k
      first o =
          record {
            from = omega arith;
            upto = omega (arith, o.operation);
            before = λ {j} h l. o.lowest (largest_run t) (largest_run-largest w) j l;
            missing = λ l. o.outside (largest_run t) (largest_run-largest w);
          }

  -- ---- none is outside exactly if the largest run is complete

  pub none-outside : (size t ≤ first_outside t) ↔ CompleteRunOf t (largest_run t)
  none-outside = (forth, λ c. back c (less? (first_outside t) (size t)))
    where
      forth : size t ≤ first_outside t → CompleteRunOf t (largest_run t)
      forth h =
          record {
            is_a_run = (largest_run-largest w).is_a_run;
            holds = λ x l. (outside-missing t).before (omega arith) (omega arith);
          }

      back : CompleteRunOf t (largest_run t) → (first_outside t < size t) ⊎ (size t ≤ first_outside t)
          → size t ≤ first_outside t
      back c (inl l) = absurd ((outside-missing t).missing l (c.holds (first_outside t) l))
      back c (inr l) = l

  -- which it is if any run is
  pub complete-largest : {c : List ℕ} → CompleteRunOf t c → CompleteRunOf t (largest_run t)
  complete-largest c = largest-complete t (largest_run-largest w) c
