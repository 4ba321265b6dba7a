-- Laws of the rule of document 01. In order: it is monotone; what an operation needs; it keeps program order;
-- the order of its operations; the workers of a file's trace are known.
-- A further condition on runs is one more test in `rule` and one more line in `rule-grows`.
use mathlib.Core.List.{List}
use mathlib.Core.Logic.{◌↔◌}
use Prim.Native.Nat.{ℕ}
use lib.Dec.{T, eqb, eqb→eq, eqb_refl}
use Rattle.basics.proofs.Booleans.{and_left}
use Rattle.basics.proofs.Members.{all-test, any-test}
use Rattle.runs.specs.Rule.{Monotone}
use Rattle.runs.specs.Greedy.{Preference}
use Rattle.runs.specs.Workers.{turn, InTurn, Ascending}
use Rattle.runs.proofs.CanonicalOrder.{canonical-preference, canonical-ascending}
use Rattle.runs.proofs.MonotoneTests.{Grows, grows-rule, grows-and, grows_all, grows-done, grows-turn}
use Rattle.runs.proofs.ProgramOrder.{turn-in-turn}
use Rattle.trace.specs.Premises.{HoldsTrace}
use Rattle.trace.specs.Reading.{trace_of}
use Rattle.trace.specs.Trace.{Trace, size, worker_of}
use Rattle.model.specs.Rule.{posts, posted, needed, needs, unblocked, rule, order, WorkersKnown}

module _ (t : Trace) where
  -- ---- monotone

  unblocked-grows : (x : ℕ) → Grows (λ d. unblocked t d x)
  unblocked-grows x = grows_all (λ e. grows-done (posts t e)) (needed t x)

  rule-grows : (x : ℕ) → Grows (λ d. (rule t).may d x)
  rule-grows x = grows-and (grows-turn (worker_of t) x) (unblocked-grows x)

  pub rule-monotone : Monotone (rule t)
  rule-monotone = grows-rule (rule t) rule-grows

  -- ---- what an operation needs

  -- it is unblocked exactly if each event that it needs is posted
  pub unblocked-needs : (d : List ℕ) (x : ℕ)
      → T (unblocked t d x) ↔ ((e : ℕ) → T (needs t e x) → T (posted t e d))
  unblocked-needs d x = (forth, back)
    where
      forth : T (unblocked t d x) → (e : ℕ) → T (needs t e x) → T (posted t e d)
      forth h e n =
          let (y, m, i) = (any-test (λ z. eqb z e) (needed t x)).0 n in
          rw (eqb→eq y e i) at ((all-test (λ z. posted t z d) (needed t x)).0 h y m)

      back : ((e : ℕ) → T (needs t e x) → T (posted t e d)) → T (unblocked t d x)
      back f =
          (all-test (λ z. posted t z d) (needed t x)).1
          (λ e m. f e ((any-test (λ z. eqb z e) (needed t x)).1 (e, m, eqb_refl e)))

  -- ---- program order

  pub rule-in-turn : InTurn (rule t) (worker_of t)
  rule-in-turn = turn-in-turn (worker_of t) (λ d x h. and_left (turn (worker_of t) d x) (unblocked t d x) h)

  -- ---- the lowest-numbered worker first

  pub order-ascending : Ascending (worker_of t) (order t)
  order-ascending = canonical-ascending (worker_of t) (size t) t.workers

pub order-preference : {t : Trace} → WorkersKnown t → Preference (size t) (order t)
order-preference {t} w = canonical-preference (worker_of t) w.known

-- ---- a file's workers

-- the trace that a file reads as has known workers
pub holds-workers : {bytes : List ℕ} {p n : ℕ} → HoldsTrace bytes p n → WorkersKnown (trace_of bytes)
holds-workers h = record { known = λ k l. rw h.workers (h.each k (rw h.count at l)).worker }
