-- The order table of an accepted file, as code reads it.
-- Follows: document 01, "Order table and order".
-- Differs: nowhere. Means: no call's contract speaks of these.
use Rattle.std.specs.Prelude.{List, ◌≡◌, ℕ, ◌+◌, ◌*◌, ◌<◌, ◌≤◌, length, get_or}
use Rattle.trace.specs.Reading.{trace_of}
use Rattle.trace.specs.Trace.{size}
use Rattle.model.specs.Computed.{row}
use Rattle.accept.specs.Acceptance.{AcceptedTrace}

-- an accepted file, and its order table
pub record HoldsTable (bytes table : List ℕ) : Type 0 where
  pub accepted : AcceptedTrace bytes (trace_of bytes)
  pub room : size (trace_of bytes) * (trace_of bytes).workers ≤ length table
  pub entry : (k q : ℕ) → k < size (trace_of bytes) → q < (trace_of bytes).workers
      → get_or table (k * (trace_of bytes).workers + q) 0 ≡ get_or (row (trace_of bytes) k) q 0

-- two different operations of it
pub record PairInTable (bytes table : List ℕ) (p a b : ℕ) : Type 0 where
  pub holds : HoldsTable bytes table
  pub workers : (trace_of bytes).workers ≡ p
  pub first : a < size (trace_of bytes)
  pub second : b < size (trace_of bytes)
  pub differ : a ≡ b → ⊥
