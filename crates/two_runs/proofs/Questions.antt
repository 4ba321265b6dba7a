-- The file's questions, and 12 to 15 of two numbers and two buffers. In order: when none refuses, and when one does;
-- which refusals there are.
use mathlib.Core.List.{List, [], ◌∷◌, ◌++◌}
use mathlib.Core.Logic.{◌⊎◌}
use Prim.Native.Nat.{ℕ, ◌<◌, ◌≤◌}
use Rattle.basics.specs.Membership.{◌∈◌}
use Rattle.trace.specs.Reading.{then_ask}
use Rattle.trace.specs.Refusals.{no_place}
use Rattle.trace.specs.Trace.{size}
use Rattle.trace.proofs.Outcomes.{ComesOut, Meaning, asks-at-most, asks_both, ask-next, pass-as, next-number}
use Rattle.model.specs.Orders.{MustPrecedeIn, Unordered}
use Rattle.model.proofs.SharedOrder.{unordered-test, ordered-test}
use Rattle.accept.proofs.Questions.{accepted-workers}
use Rattle.pair_order.specs.Order.{pair_reading}
use Rattle.pair_order.specs.Refusals.{AcceptedPair, pair_numbers}
use Rattle.pair_order.proofs.Questions.{pair-comes-out, refused-pair-number}
use Rattle.two_runs.specs.Refusals.{AcceptedUnordered, AcceptedRuns, RefusedOrdered, RefusedRuns, runs_numbers}
use Rattle.two_runs.specs.Runs.{are_unordered, each_holds, runs_reading}

-- ---- when none refuses, and when one does

module _ (bytes : List ℕ) (a b : ℕ) where
  fourteen : Meaning (AcceptedPair bytes a b) (are_unordered a b) (λ t. Unordered t a b)
      (λ t. MustPrecedeIn t a b ⊎ MustPrecedeIn t b a)
  fourteen =
      record {
        says-yes = λ t h. unordered-test (accepted-workers h.numbers.accepted) a b;
        says-no = λ t h. ordered-test (accepted-workers h.numbers.accepted) a b;
      }

  fifteen : (x y : ℕ) → Meaning (AcceptedUnordered bytes a b) (each_holds x y) (λ t. (size t ≤ x) × (size t ≤ y))
      (λ t. (x < size t) ⊎ (y < size t))
  fifteen x y = asks_both (asks-at-most size (λ t. x)) (asks-at-most size (λ t. y))

  pub runs-comes-out : (x y : ℕ)
      → ComesOut (runs_reading bytes a b x y) (AcceptedRuns bytes a b x y) (RefusedRuns bytes a b x y)
  unfolding runs_reading
  runs-comes-out x y = pass-as (ask-next 15 no_place (fifteen x y) unordered) (λ t. (
    λ p. record { accepted = p.0; first_holds = p.1.0; second_holds = p.1.1 },
    λ p. (p.accepted, (p.first_holds, p.second_holds)),
  ))
    where
      unordered : ComesOut (then_ask 14 (are_unordered a b) no_place (pair_reading bytes a b))
          (AcceptedUnordered bytes a b) (RefusedOrdered bytes a b)
      unordered = pass-as (ask-next 14 no_place fourteen (pair-comes-out bytes a b)) (λ t. (
        λ p. record { pair = p.0; unordered = p.1 },
        λ p. (p.pair, p.unordered),
      ))

-- ---- which refusals there are

pub refused-runs-number : {bytes : List ℕ} {a b x y q k : ℕ} → RefusedRuns bytes a b x y q k
    → q ∈ runs_numbers
refused-runs-number r = next-number (pair_numbers ++ 14 ∷ []) (next-number pair_numbers refused-pair-number) r
