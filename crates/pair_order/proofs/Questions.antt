-- The file's questions, and 12 and 13 of two numbers. In order: when none refuses, and when one does; which refusals
-- there are.
use mathlib.Core.List.{List, [], ◌∷◌, ◌++◌}
use mathlib.Core.Logic.{◌⊎◌, ◌≢◌}
use mathlib.Core.Path.{◌≡◌}
use Prim.Native.Nat.{ℕ, ◌<◌, ◌≤◌}
use lib.Dec.{eqb}
use borrow.Author.Tests.{eqb-true, eqb-false, eq-eqb, ne_eqb, not-true, not-false}
use Rattle.basics.specs.Membership.{◌∈◌}
use Rattle.trace.specs.Reading.{then_ask}
use Rattle.trace.specs.Refusals.{no_place, file_numbers}
use Rattle.trace.specs.Trace.{size}
use Rattle.trace.proofs.Outcomes.{ComesOut, Meaning, asks-below, asks_both, ask-next, pass-as, next-number}
use Rattle.accept.specs.Acceptance.{acceptance, AcceptedTrace}
use Rattle.accept.proofs.Questions.{comes-out, refused-number}
use Rattle.pair_order.specs.Order.{both_below, they_differ, pair_reading}
use Rattle.pair_order.specs.Refusals.{AcceptedNumbers, AcceptedPair, RefusedNumbers, RefusedPair, pair_numbers}

-- ---- when none refuses, and when one does

module _ (bytes : List ℕ) (a b : ℕ) where
  thirteen : Meaning (AcceptedNumbers bytes a b) (they_differ a b) (λ t. a ≢ b) (λ t. a ≡ b)
  thirteen =
      record {
        says-yes = λ t h. (λ e. eqb-false a b (not-true (eqb a b) e), λ d. simp (ne_eqb a b d));
        says-no = λ t h. (λ e. eqb-true a b (not-false (eqb a b) e), λ e. simp (eq-eqb a b e));
      }

  pub pair-comes-out : ComesOut (pair_reading bytes a b) (AcceptedPair bytes a b) (RefusedPair bytes a b)
  unfolding pair_reading
  pair-comes-out = pass-as (ask-next 13 no_place thirteen numbers) (λ t. (
    λ p. record { numbers = p.0; differ = p.1 },
    λ p. (p.numbers, p.differ),
  ))
    where
      twelve : Meaning (AcceptedTrace bytes) (both_below a b) (λ t. (a < size t) × (b < size t))
          (λ t. (size t ≤ a) ⊎ (size t ≤ b))
      twelve = asks_both (asks-below (λ t. a) size) (asks-below (λ t. b) size)

      numbers : ComesOut (then_ask 12 (both_below a b) no_place (acceptance bytes)) (AcceptedNumbers bytes a b)
          (RefusedNumbers bytes a b)
      numbers = pass-as (ask-next 12 no_place twelve (comes-out bytes)) (λ t. (
        λ p. record { accepted = p.0; first_below = p.1.0; second_below = p.1.1 },
        λ p. (p.accepted, (p.first_below, p.second_below)),
      ))

-- ---- which refusals there are

pub refused-pair-number : {bytes : List ℕ} {a b q k : ℕ} → RefusedPair bytes a b q k
    → q ∈ pair_numbers
refused-pair-number r = next-number (file_numbers ++ 12 ∷ []) (next-number file_numbers refused-number) r
