-- Traces that fit. In order: a file that reads as a trace has one; the events of their operations.
use mathlib.Core.List.{List}
use native.Mathlib.Omega.{arith}
use Prim.Native.Nat.{ℕ, ◌<◌}
use lib.Dec.{T}
use Rattle.trace.specs.Premises.{HoldsTrace, Fits}
use Rattle.trace.specs.Reading.{trace_of}
use Rattle.trace.specs.Trace.{Trace, size, operation, is_sync}

pub trace-fits : {bytes : List ℕ} {p n : ℕ} → HoldsTrace bytes p n → Fits (trace_of bytes)
trace-fits h =
    record {
      most = rw h.workers h.most;
      each = λ k l. rw h.workers (h.each k (rw h.count at l));
    }

-- a Post's or a Wait's event
pub event-below : {t : Trace} → Fits t → (k : ℕ) → k < size t → T (is_sync (operation t k).kind)
    → (operation t k).number < 256
event-below f k l s = omega (arith, ((f.each k l).event s).0)
