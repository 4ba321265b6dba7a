-- The records of a file, and the operations written in them, before any question is asked. In order: a record lies
-- inside the file; how many operations; the k-th; one more.
use mathlib.Core.List.{List, [], ◌∷◌, ◌++◌}
use mathlib.Core.Path.{◌≡◌, refl, ap, ◌∙◌}
use native.Mathlib.Nat.{mul-suc, mul-zero, mul-le-mul_left}
use native.Mathlib.Omega.{arith}
use Prim.Native.Nat.{ℕ, zero, suc, ◌+◌, ◌*◌, ◌<◌, ◌≤◌}
use lib.ListN.{length, get_or, drop}
use lib.Seq.{drop-drop}
use Rattle.trace.specs.declared.Operation.{Operation}
use Rattle.trace.specs.Form.{Form, record_size, start}
use Rattle.trace.specs.Questions.{operation_in}
use Rattle.trace.specs.Refusals.{operations_in}
use Rattle.trace.specs.Trace.{no_operation}

-- the record of operation k lies inside a file of n operations
pub start-inside : (f : Form) (k n : ℕ) → k < n → start f k + record_size f ≤ start f n
start-inside f k n h =
    let room : record_size f * suc k ≤ record_size f * n = mul-le-mul_left (record_size f) h in
    omega (arith, room, mul-suc (record_size f) k)

pub length-operations : (f : Form) (n : ℕ) (bytes : List ℕ) → length (operations_in f n bytes) ≡ n
unfolding operations_in
length-operations f zero bytes = refl
length-operations f (suc n) bytes = ap suc (length-operations f n (drop (record_size f) bytes))

pub drop-records : (f : Form) (k : ℕ) (bytes : List ℕ)
    → drop (record_size f * k) (drop (record_size f) bytes) ≡ drop (record_size f * suc k) bytes
drop-records f k bytes =
    let e : record_size f + record_size f * k ≡ record_size f * suc k = omega (arith, mul-suc (record_size f) k) in
    drop-drop (record_size f * k) (record_size f) bytes ∙ rw e

pub operations-at : (f : Form) (n k : ℕ) (bytes : List ℕ) → k < n
    → get_or (operations_in f n bytes) k no_operation ≡ operation_in (drop (record_size f * k) bytes)
unfolding operations_in
operations-at f zero k bytes h = absurd (omega arith)
operations-at f (suc n) zero bytes h = rw mul-zero
operations-at f (suc n) (suc k) bytes h =
    operations-at f n k (drop (record_size f) bytes) (omega arith) ∙ ap operation_in (drop-records f k bytes)

pub operations-more : (f : Form) (k : ℕ) (bytes : List ℕ)
    → operations_in f (suc k) bytes ≡ operations_in f k bytes ++ operation_in (drop (record_size f * k) bytes) ∷ []
unfolding operations_in
operations-more f zero bytes = rw mul-zero
operations-more f (suc k) bytes =
    ap (λ (os : List Operation). operation_in bytes ∷ os)
    (operations-more f k (drop (record_size f) bytes) ∙ rw (drop-records f k bytes))
