-- What the call answers and leaves in the two buffers. In order: the order of the pair, as the code tests it; by the
-- outcome of the questions; as the code comes to it; what the answer says.
use mathlib.Core.Bool.{true, false}
use mathlib.Core.List.{List}
use mathlib.Core.Logic.Iff
use mathlib.Core.Logic.{◌⊎◌, inl, inr, ◌↔◌}
use mathlib.Core.Path.{◌≡◌, refl, sym, ◌∙◌}
use Prim.Native.Nat.{ℕ, ◌<◌, ◌≤◌}
use lib.IntN.{pos}
use lib.ListN.{length}
use Rattle.basics.proofs.Booleans.{test-true}
use Rattle.trace.specs.Premises.{HoldsTrace}
use Rattle.trace.specs.Reading.{Reading, refused, trace_of}
use Rattle.trace.specs.Refusals.{by_earlier, by_this}
use Rattle.trace.specs.Trace.{Trace, size}
use Rattle.trace.proofs.Outcomes.{tells-refusals, outcome-refused, outcome-passes, refuses-nothing}
use Rattle.model.specs.Computed.{must_precede_in}
use Rattle.model.specs.Orders.{MustPrecedeIn}
use Rattle.model.proofs.SharedOrder.{must-precede-in-test, order-neither, pair-order-zero}
use Rattle.trace.specs.Answer.{Refused}
use Rattle.pair_order.specs.Order.{Ordered}
use Rattle.two_runs.specs.Runs.{Runs}
use Rattle.accept.specs.Acceptance.{AcceptedTrace, accept_answer}
use Rattle.accept.proofs.Questions.{accepted-workers, accepted-trace, accepted-same}
use Rattle.pair_order.specs.Order.{order_answer}
use Rattle.pair_order.specs.Refusals.{AcceptedPair}
use Rattle.pair_order.proofs.Answers.{answer-unaccepted, order-refused, order-ordered}
use Rattle.pair_order.proofs.Orders.{answer-sign}
use Rattle.pair_order.proofs.Questions.{pair-comes-out}
use Rattle.two_runs.specs.Premises.{BothWritten}
use Rattle.two_runs.specs.Refusals.{AcceptedUnordered, AcceptedRuns, RefusedOrdered, RefusedRuns}
use Rattle.two_runs.specs.Runs.{runs_reading, answer_of, buffer_after, runs_answer, first_after, second_after}
use Rattle.two_runs.specs.Runs.{RunsCall}
use Rattle.two_runs.proofs.Questions.{runs-comes-out}

-- ---- the order of the pair

module _ {bytes : List ℕ} {a b : ℕ} (h : AcceptedPair bytes a b (trace_of bytes)) where
  -- neither must precede the other
  pub pair-unordered : must_precede_in (trace_of bytes) a b ≡ false → must_precede_in (trace_of bytes) b a ≡ false
      → AcceptedUnordered bytes a b (trace_of bytes)
  pair-unordered e i =
      let zero = order-neither (trace_of bytes) a b e i in
      record { pair = h; unordered = (pair-order-zero (accepted-workers h.numbers.accepted) a b).0 zero }

  must : (x y : ℕ) → must_precede_in (trace_of bytes) x y ≡ true → MustPrecedeIn (trace_of bytes) x y
  must x y e = (must-precede-in-test (accepted-workers h.numbers.accepted) x y).0 ((test-true _).0 e)

  -- one must
  pair-ordered : (must_precede_in (trace_of bytes) a b ≡ true) ⊎ (must_precede_in (trace_of bytes) b a ≡ true)
      → MustPrecedeIn (trace_of bytes) a b ⊎ MustPrecedeIn (trace_of bytes) b a
  pair-ordered (inl e) = inl (must a b e)
  pair-ordered (inr e) = inr (must b a e)

module _ (bytes : List ℕ) (a b : ℕ) (first second : List ℕ) where
  -- ---- by the outcome of the questions

  pub call_by : {r : Reading} → runs_reading bytes a b (length first) (length second) ≡ r
      → RunsCall bytes a b first second (answer_of r) (buffer_after b r first) (buffer_after a r second)
  unfolding runs_answer first_after second_after
  call_by e = record { answers = rw e; leaves_first = rw e; leaves_second = rw e }

  by-no : {q k : ℕ} → RefusedRuns bytes a b (length first) (length second) q k
      → RunsCall bytes a b first second (Refused q k) first second
  by-no {q} {k} r = call_by (((runs-comes-out bytes a b (length first) (length second)).refuses q k).1 r)

  -- ---- as the code comes to it

  module _ {p n : ℕ} (f : AcceptedUnordered bytes a b (trace_of bytes)) (h : HoldsTrace bytes p n) where
    pub call-short : (length first < n) ⊎ (length second < n)
        → RunsCall bytes a b first second (Refused 15 0) first second
    call-short s = by-no short
      where
        short : RefusedRuns bytes a b (length first) (length second) 15 0
        short = by_this (trace_of bytes) f (rw h.count s) refl refl

    pub call-runs : n ≤ length first → n ≤ length second → {first-now second-now : List ℕ}
        → BothWritten (trace_of bytes) a b first first-now second second-now
        → RunsCall bytes a b first second (Runs n) first-now second-now
    call-runs i j w =
        let c = call_by (((runs-comes-out bytes a b (length first) (length second)).passes (trace_of bytes)).1 runs) in
        record {
          answers = rw h.count at c.answers;
          leaves_first = w.first_written ∙ c.leaves_first;
          leaves_second = w.second_written ∙ c.leaves_second;
        }
      where
        runs : AcceptedRuns bytes a b (length first) (length second) (trace_of bytes)
        runs = record { accepted = f; first_holds = rw h.count i; second_holds = rw h.count j }

  pub call-ordered : AcceptedPair bytes a b (trace_of bytes)
      → (must_precede_in (trace_of bytes) a b ≡ true) ⊎ (must_precede_in (trace_of bytes) b a ≡ true)
      → RunsCall bytes a b first second (Refused 14 0) first second
  call-ordered h s = by-no (by_earlier ordered)
    where
      ordered : RefusedOrdered bytes a b 14 0
      ordered = by_this (trace_of bytes) h (pair-ordered h s) refl refl

  pub call-unpaired : {q k : ℕ} → order_answer bytes a b ≡ Refused q k
      → RunsCall bytes a b first second (Refused q k) first second
  call-unpaired {q} {k} o =
      by-no (by_earlier (by_earlier (((pair-comes-out bytes a b).refuses q k).0 ((order-refused bytes a b q k).0 o))))

  pub call-refused : {q k : ℕ} → accept_answer bytes ≡ Refused q k
      → RunsCall bytes a b first second (Refused q k) first second
  call-refused i = call-unpaired (sym (answer-unaccepted bytes a b i))

  -- ---- what the answer says

  pub runs-refused : (q k : ℕ)
      → (runs_answer bytes a b first second ≡ Refused q k)
      ↔ (runs_reading bytes a b (length first) (length second) ≡ refused q k)
  unfolding runs_answer
  runs-refused q k = outcome-refused answer_of (tells-refusals _) (runs_reading bytes a b (length first) (length second)) q k

  -- for an accepted file: neither must precede the other, and the buffers are long enough; the count is n
  pub runs-given : {t : Trace} → AcceptedTrace bytes t → (m : ℕ)
      → (runs_answer bytes a b first second ≡ Runs m)
      ↔ (AcceptedRuns bytes a b (length first) (length second) t × (m ≡ size t))
  unfolding runs_answer
  runs-given {t} h m =
      Iff.trans
      (outcome-passes answer_of (refuses-nothing size _) (runs-comes-out bytes a b (length first) (length second))
      (λ u r. accepted-same r.accepted.pair.numbers.accepted h)) (λ p. (p.0, cc), λ p. (p.0, rw p.1))

  -- in other words: the pair order is 0, and the buffers are long enough
  pub runs-when : {t : Trace} → AcceptedTrace bytes t
      → AcceptedRuns bytes a b (length first) (length second) t
      ↔ ((order_answer bytes a b ≡ Ordered (pos 0)) × (size t ≤ length first) × (size t ≤ length second))
  runs-when {t} h = (
    λ r. (forth r.accepted, r.first_holds, r.second_holds),
    λ p. record { accepted = back p.0; first_holds = p.1; second_holds = p.2 },
  )
    where
      forth : AcceptedUnordered bytes a b t → order_answer bytes a b ≡ Ordered (pos 0)
      forth u = (answer-sign u.pair (pos 0)).1 ((pair-order-zero (accepted-workers h) a b).1 u.unordered)

      back : order_answer bytes a b ≡ Ordered (pos 0) → AcceptedUnordered bytes a b t
      back o =
          let pair : AcceptedPair bytes a b t = rw (accepted-trace h) at (order-ordered bytes a b (pos 0) o).0 in
          let zero = (answer-sign pair (pos 0)).0 o in
          record { pair = pair; unordered = (pair-order-zero (accepted-workers h) a b).0 zero }
