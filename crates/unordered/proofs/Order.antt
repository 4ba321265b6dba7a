-- The certain order along workers. In order: what is known of the trace; chains; along one worker; by the table.
use mathlib.Core.Bool.{true, false, true≢false}
use mathlib.Core.List.{List}
use mathlib.Core.Logic.Iff
use mathlib.Core.Logic.{inl, inr, ◌↔◌}
use mathlib.Core.Path.{◌≡◌, sym, ◌∙◌}
use native.Mathlib.Omega.{arith}
use Prim.Native.Nat.{ℕ, ◌+◌, ◌*◌, ◌<◌, ◌≤◌}
use lib.ListN.{get_or}
use borrow.Author.Tests.{le-leb, lt-leb}
use Rattle.basics.proofs.Booleans.{equal?, test-true, never-passes}
use Rattle.runs.proofs.SharedOrder.{must-precede-transitive}
use Rattle.trace.specs.Reading.{trace_of}
use Rattle.trace.specs.Trace.{Trace, size, worker_of}
use Rattle.model.specs.Computed.{must_precede_in, largest_run}
use Rattle.model.specs.Orders.{MustPrecedeIn}
use Rattle.model.specs.Rule.{WorkersKnown}
use Rattle.model.specs.Runs.{CompleteRunOf}
use Rattle.model.proofs.RuleLaws.{rule-monotone}
use Rattle.model.proofs.SharedOrder.{must-precede-means, must-precede-in-test}
use Rattle.model.proofs.TableRows.{earlier-must-precede}
use Rattle.model.proofs.TraceRuns.{complete-means}
use Rattle.accept.proofs.Questions.{accepted-limits, accepted-workers, accepted-run}
use Rattle.table_entries.specs.Entries.{HoldsTable, PairInTable}
use Rattle.table_entries.proofs.TableEntries.{entries-tell}
use Rattle.unordered.specs.Kept.{IsOf}

-- what is known of an accepted trace
pub record Given (t : Trace) : Type 0 where
  pub known : WorkersKnown t
  pub run : CompleteRunOf t (largest_run t)
  pub most : t.workers ≤ 16
  pub few : size t ≤ 1024

pub table-given : {bytes table : List ℕ} → HoldsTable bytes table → Given (trace_of bytes)
table-given h =
    let a = h.accepted in
    let (some, most, few) = accepted-limits a in
    record { known = accepted-workers a; run = accepted-run a; most = most; few = few }

module _ {t : Trace} (g : Given t) where
  certain : (x y : ℕ) → (must_precede_in t x y ≡ true) ↔ MustPrecedeIn t x y
  certain x y = Iff.trans (test-true (must_precede_in t x y)) (must-precede-in-test g.known x y)

  -- ---- chains

  certain-chain : (x y z : ℕ) → x < size t → y < size t → must_precede_in t x y ≡ true → must_precede_in t y z ≡ true
      → must_precede_in t x z ≡ true
  certain-chain x y z i j p q =
      (certain x z).1
      ((must-precede-means t).0
      (must-precede-transitive (rule-monotone t) ((complete-means t).1 g.run) i j
      ((must-precede-means t).1 ((certain x y).0 p))
      ((must-precede-means t).1 ((certain y z).0 q))))

  pub certain-own : {q x y : ℕ} → IsOf t q x → IsOf t q y → x < y → must_precede_in t x y ≡ true
  certain-own {x = x} {y} i j l = (certain x y).1 (earlier-must-precede t (i.worker ∙ sym j.worker) l)

  -- ---- along one worker

  -- what is certain before an operation is so before the later ones
  pub certain-on : {q x y z : ℕ} → x < size t → IsOf t q y → IsOf t q z → y ≤ z → must_precede_in t x y ≡ true
      → must_precede_in t x z ≡ true
  certain-on {x = x} {y} {z} h i j l p = elim (equal? y z) [
    | inl e ↦ rw (← e) p
    | inr d ↦ certain-chain x y z h i.below p (certain-own i j (omega (arith, d)))
  ]

  -- what an operation is not certain before, no later one is certain before
  pub uncertain-on : {q x y : ℕ} (z : ℕ) → IsOf t q x → IsOf t q y → x ≤ y → must_precede_in t x z ≡ false
      → must_precede_in t y z ≡ false
  uncertain-on {x = x} {y} z i j l p = elim (equal? x y) [
    | inl e ↦ rw (← e) p
    | inr d ↦ never-passes (must_precede_in t y z) (λ c.
        true≢false
        (sym (certain-chain x y z i.below j.below (certain-own i j (omega (arith, d))) c) ∙ p))
  ]

-- ---- by the table

module _ {bytes table : List ℕ} {p a b q : ℕ} (r : PairInTable bytes table p a b)
    (e : q ≡ worker_of (trace_of bytes) b) where
  pub entries-certain : get_or table (a * p + q) 0 ≤ get_or table (b * p + q) 0 → must_precede_in (trace_of bytes) a b ≡ true
  entries-certain l = entries-tell r e ∙ le-leb _ _ l

  pub entries-uncertain : get_or table (b * p + q) 0 < get_or table (a * p + q) 0
      → must_precede_in (trace_of bytes) a b ≡ false
  entries-uncertain l = entries-tell r e ∙ lt-leb _ _ l
