-- The customer's demand 3, sentence by sentence, as theorems about what the calls answer and leave in lent memory, at
-- any file bytes and lent memory: by the definition that the pair order's contract equals, and by the promise of the
-- two runs (`RunsCall`). A run, a complete run and "stands before" are those of document 01, on the trace that the
-- file's bytes read as.
use mathlib.Core.List.{List, ◌++◌}
use mathlib.Core.Logic.Iff
use mathlib.Core.Logic.{◌⊎◌, inl, inr, ◌↔◌, ◌≢◌}
use mathlib.Core.Path.{◌≡◌, refl, sym, ◌∙◌}
use Prim.Native.Nat.{ℕ, ◌<◌, ◌≤◌}
use lib.IntN.{ℤ, pos, negsuc, neg_ℤ}
use lib.ListN.{length, get_or, take}
use Rattle.runs.specs.Run.{StandsBefore}
use Rattle.trace.specs.Trace.{Trace, size}
use Rattle.model.specs.Computed.{held_back_run}
use Rattle.model.specs.Moves.{HeldBackRun}
use Rattle.model.specs.Orders.{AlwaysBefore, SometimesBefore}
use Rattle.model.specs.Runs.{RunOf, CompleteRunOf, CarriedOn}
use Rattle.model.proofs.HeldBack.{held-back-run, held-back-only, pair-order-both}
use Rattle.model.proofs.Largest.{carried_on}
use Rattle.model.proofs.SharedOrder.{pair-order-before, pair-order-after, pair-order-otherwise, pair-order-one-of}
use Rattle.accept.specs.Acceptance.{AcceptedTrace}
use Rattle.accept.proofs.Questions.{accepted-workers, accepted-run}
use Rattle.pair_order.specs.Order.{order_answer}
use Rattle.pair_order.specs.Refusals.{AcceptedPair}
use Rattle.std.specs.Prelude.{Result}
use Rattle.trace.specs.declared.Refusal.{Refusal}
use Rattle.trace.specs.Answer.{Refused}
use Rattle.pair_order.specs.Order.{Ordered}
use Rattle.two_runs.specs.Runs.{Runs}
use Rattle.pair_order.proofs.Orders.{answer-sign, swapped-order, swapped-refusal}
use Rattle.two_runs.specs.Refusals.{AcceptedRuns}
use Rattle.two_runs.specs.Runs.{RunsCall}
use Rattle.two_runs.proofs.Answers.{runs-given, runs-when}
use Rattle.two_runs.proofs.Buffers.{StartsWithRun, after_first, after-second}

-- ---- "The order reported for two operations is the order that all runs share."

-- "For every accepted trace and every two different operations a and b of it":
module _ {bytes : List ℕ} {t : Trace} (h : AcceptedTrace bytes t) {a b : ℕ} (i : a < size t) (j : b < size t)
    (d : a ≢ b) where
  pair : AcceptedPair bytes a b t
  pair = record { numbers = record { accepted = h; first_below = i; second_below = j }; differ = d }

  -- "the pair order is −1 exactly when a stands before b in every complete run":
  pub order-before : (order_answer bytes a b ≡ Ordered (negsuc 0)) ↔ AlwaysBefore t a b
  order-before =
      Iff.trans (answer-sign pair (negsuc 0)) (pair-order-before (accepted-workers h) (accepted-run h) i j d)

  -- "+1 exactly when b stands before a in every complete run":
  pub order-after : (order_answer bytes a b ≡ Ordered (pos 1)) ↔ AlwaysBefore t b a
  order-after = Iff.trans (answer-sign pair (pos 1)) (pair-order-after (accepted-workers h) (accepted-run h) i j d)

  -- "and otherwise 0":
  pub order-otherwise : (order_answer bytes a b ≡ Ordered (pos 0))
      ↔ ((AlwaysBefore t a b → ⊥) × (AlwaysBefore t b a → ⊥))
  order-otherwise =
      Iff.trans (answer-sign pair (pos 0)) (pair-order-otherwise (accepted-workers h) (accepted-run h) i j d)

  -- It is one of the three:
  pub order-one-of : (order_answer bytes a b ≡ Ordered (negsuc 0))
      ⊎ (order_answer bytes a b ≡ Ordered (pos 1))
      ⊎ (order_answer bytes a b ≡ Ordered (pos 0))
  order-one-of = elim (pair-order-one-of t a b) [
    | inl e ↦ inl ((answer-sign pair (negsuc 0)).1 e)
    | inr s ↦ inr (elim s [
      | inl e ↦ inl ((answer-sign pair (pos 1)).1 e)
      | inr e ↦ inr ((answer-sign pair (pos 0)).1 e)
    ])
  ]

  -- And 0 exactly when a stands before b in some complete run, and b before a in some:
  pub order-both-ways : (order_answer bytes a b ≡ Ordered (pos 0)) ↔ (SometimesBefore t a b × SometimesBefore t b a)
  order-both-ways = Iff.trans (answer-sign pair (pos 0)) (pair-order-both (accepted-workers h) (accepted-run h) i j d)

-- document 01: "swapping the two negates it", of any bytes and any two numbers:
pub order-swapped : (bytes : List ℕ) (a b : ℕ) (sign : ℤ) → order_answer bytes a b ≡ Ordered sign
    → order_answer bytes b a ≡ Ordered (neg_ℤ sign)
order-swapped bytes a b sign e = swapped-order bytes a b sign e

-- A refusal stays as it is:
pub refusal-swapped : (bytes : List ℕ) (a b q k : ℕ) → order_answer bytes a b ≡ Refused q k
    → order_answer bytes b a ≡ Refused q k
refusal-swapped bytes a b q k e = swapped-refusal bytes a b q k e

-- ---- The two runs

-- For every accepted trace, any two numbers and any two buffers, and what the call (`RunsCall`) answers and leaves in
-- the buffers:
module _ {bytes : List ℕ} {t : Trace} (h : AcceptedTrace bytes t) {a b : ℕ}
    {first second first-now second-now : List ℕ} {answer : Result ℕ Refusal}
    (c : RunsCall bytes a b first second answer first-now second-now) where
  -- "Two runs are returned exactly when the pair order is 0 and both run buffers hold at least as many numbers as there
  -- are operations":
  pub runs-exactly : ((m : ℕ) × (answer ≡ Runs m))
      ↔ ((order_answer bytes a b ≡ Ordered (pos 0)) × (size t ≤ length first) × (size t ≤ length second))
  runs-exactly = rw c.answers (
    λ p. (runs-when bytes a b first second h).0 ((runs-given bytes a b first second h p.0).0 p.1).0,
    λ p. (size t, (runs-given bytes a b first second h (size t)).1 ((runs-when bytes a b first second h).1 p, refl)),
  )

  -- "Then":
  module _ {m : ℕ} (e : answer ≡ Runs m) where
    given : AcceptedRuns bytes a b (length first) (length second) t
    given = ((runs-given bytes a b first second h m).0 (sym c.answers ∙ e)).0

    in_first : StartsWithRun t a b first first-now
    in_first = rw c.leaves_first (after_first bytes a b first second given)

    in_second : StartsWithRun t b a second second-now
    in_second = rw c.leaves_second (after-second bytes a b first second given)

    -- The answer is the operation count, how many numbers are written to each buffer:
    pub runs-count : m ≡ size t
    runs-count = ((runs-given bytes a b first second h m).0 (sym c.answers ∙ e)).1

    -- "each buffer starts with its run by document 01's rule": the first with the run that holds b back, the second
    -- with the run that holds a back:
    pub first-by-rule : HeldBackRun t b (take (size t) first-now)
    first-by-rule = in_first.by-rule

    pub second-by-rule : HeldBackRun t a (take (size t) second-now)
    second-by-rule = in_second.by-rule

    -- "Both are complete runs of the trace":
    pub first-complete : CompleteRunOf t (take (size t) first-now)
    first-complete = in_first.complete

    pub second-complete : CompleteRunOf t (take (size t) second-now)
    second-complete = in_second.complete

    -- "a stands before b in the first buffer's run, and b before a in the second's":
    pub first-has-a-before : StandsBefore a b (take (size t) first-now)
    first-has-a-before = in_first.before

    pub second-has-b-before : StandsBefore b a (take (size t) second-now)
    second-has-b-before = in_second.before

    -- document 01: "everything past the last element written is as before":
    pub first_past : (i : ℕ) → size t ≤ i → get_or first-now i 0 ≡ get_or first i 0
    first_past i l = in_first.past i l

    pub second_past : (i : ℕ) → size t ≤ i → get_or second-now i 0 ≡ get_or second i 0
    second_past i l = in_second.past i l

-- The rule leaves no choice: for every accepted trace and any number there is one run that holds it back, and only one:
module _ {bytes : List ℕ} {t : Trace} (h : AcceptedTrace bytes t) (x : ℕ) where
  pub rule-run : (r : List ℕ) × HeldBackRun t x r
  rule-run = (held_back_run t x, held-back-run (accepted-workers h) x)

  pub rule-run-only : (r s : List ℕ) → HeldBackRun t x r → HeldBackRun t x s → r ≡ s
  rule-run-only r s p q = held-back-only (accepted-workers h) x p ∙ sym (held-back-only (accepted-workers h) x q)

-- ---- Carrying on

-- "And every run of an accepted trace that is not yet complete can be carried on to a complete one": by adding
-- operations at its end, each longer list a run too:
pub run-carried-on : {bytes : List ℕ} {t : Trace} → AcceptedTrace bytes t → {r : List ℕ} → RunOf t r
    → (s : List ℕ) × CarriedOn t r s × CompleteRunOf t (r ++ s)
run-carried-on {t = t} h p = carried_on t p (accepted-run h)
