-- Two runs: questions 14 and 15, what the call answers, and what it leaves in the two lent buffers.
-- Follows: document 01, "The questions" and "Two runs".
-- Differs: nowhere. `held_back_run t b`, the run that holds b back, is in the crate `model`, computed; that it is the run
-- of document 01's rule is shown there.
use Rattle.std.specs.Prelude.{Bool, ◌&&◌, List, ◌≡◌, ℕ, leb, length, Result, Ok}
use Rattle.trace.specs.declared.Refusal.{Refusal}
use Rattle.trace.specs.Answer.{answer_by}
use Rattle.trace.specs.Reading.{Reading, then_ask}
use Rattle.trace.specs.Refusals.{no_place}
use Rattle.trace.specs.Trace.{Trace, size}
use Rattle.model.specs.Computed.{unordered_in, held_back_run}
use Rattle.lent.specs.Left.{left_by}
use Rattle.pair_order.specs.Order.{pair_reading}

-- 14. "Is neither certain before the other?"
abbrev pub are_unordered : ℕ → ℕ → Trace → Bool
are_unordered a b t = unordered_in t a b

-- 15. "Does each of the two lent run buffers hold at least n numbers?" They hold x and y numbers.
abbrev pub each_holds : ℕ → ℕ → Trace → Bool
each_holds x y t = leb (size t) x && leb (size t) y

-- the file's questions and 12 to 15: the refusal by the first "no", or the trace
unfoldable pub runs_reading : List ℕ → ℕ → ℕ → ℕ → ℕ → Reading
runs_reading bytes a b x y =
    then_ask 15 (each_holds x y) no_place (then_ask 14 (are_unordered a b) no_place (pair_reading bytes a b))

-- the operation count n, the length of each run
abbrev pub Runs : ℕ → Result ℕ Refusal
Runs n = Ok n

-- that count, or the refusal's number and place
abbrev pub answer_of : Reading → Result ℕ Refusal
answer_of = answer_by size

-- what the call answers
unfoldable pub runs_answer : List ℕ → ℕ → ℕ → List ℕ → List ℕ → Result ℕ Refusal
runs_answer bytes a b first second = answer_of (runs_reading bytes a b (length first) (length second))

-- a buffer that gets the run which holds `late` back; "Refused calls write nothing"; "everything past the last element
-- written is as before"
abbrev pub buffer_after : ℕ → Reading → List ℕ → List ℕ
buffer_after late r lent = left_by (λ t. held_back_run t late) r lent

-- what the call leaves in the first buffer: "the run with a first", which holds b back
unfoldable pub first_after : List ℕ → ℕ → ℕ → List ℕ → List ℕ → List ℕ
first_after bytes a b first second = buffer_after b (runs_reading bytes a b (length first) (length second)) first

-- and in the second: "the other run [...] swaps a and b"
unfoldable pub second_after : List ℕ → ℕ → ℕ → List ℕ → List ℕ → List ℕ
second_after bytes a b first second = buffer_after a (runs_reading bytes a b (length first) (length second)) second

-- the call's promise, for any bytes, any two numbers and any buffers: its answer, and what is in the buffers afterwards
pub record RunsCall (bytes : List ℕ) (a b : ℕ) (first second : List ℕ) (answer : Result ℕ Refusal)
    (first-now second-now : List ℕ) : Type 0 where
  pub answers : answer ≡ runs_answer bytes a b first second
  pub leaves_first : first-now ≡ first_after bytes a b first second
  pub leaves_second : second-now ≡ second_after bytes a b first second
