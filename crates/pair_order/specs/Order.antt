-- The order of two operations: questions 12 and 13, and what the call answers.
-- Follows: document 01, "The questions" and "Order table and order".
-- Differs: nowhere. `pair_order t a b` is in the crate `model`, computed; what it means in runs is shown there.
use Rattle.std.specs.Prelude.{Bool, not, ◌&&◌, List, ℕ, ℤ, eqb, ltb, Result, Ok}
use Rattle.trace.specs.declared.Refusal.{Refusal}
use Rattle.trace.specs.Answer.{answer_by}
use Rattle.trace.specs.Reading.{Reading, then_ask}
use Rattle.trace.specs.Refusals.{no_place}
use Rattle.trace.specs.Trace.{Trace, size}
use Rattle.model.specs.Computed.{pair_order}
use Rattle.accept.specs.Acceptance.{acceptance}

-- 12. "Are both operation numbers below n?"
abbrev pub both_below : ℕ → ℕ → Trace → Bool
both_below a b t = ltb a (size t) && ltb b (size t)

-- 13. "Do they differ?"
abbrev pub they_differ : ℕ → ℕ → Trace → Bool
they_differ a b t = not (eqb a b)

-- the file's questions, 12 and 13: the refusal by the first "no", or the trace
unfoldable pub pair_reading : List ℕ → ℕ → ℕ → Reading
pair_reading bytes a b = then_ask 13 (they_differ a b) no_place (then_ask 12 (both_below a b) no_place (acceptance bytes))

-- the pair order, −1, 0 or +1
abbrev pub Ordered : ℤ → Result ℤ Refusal
Ordered sign = Ok sign

-- that order, or the refusal's number and place
abbrev pub answer_of : ℕ → ℕ → Reading → Result ℤ Refusal
answer_of a b = answer_by (λ t. pair_order t a b)

-- what the call answers
unfoldable pub order_answer : List ℕ → ℕ → ℕ → Result ℤ Refusal
order_answer bytes a b = answer_of a b (pair_reading bytes a b)
