-- `of` meets its contract: what the header says are the trace's counts. Assumes nothing.
use mathlib.Core.List.{List}
use mathlib.Core.Path.{◌≡◌}
use Prim.Native.Nat.{ℕ}
use Rattle.trace.specs.Premises.{HoldsTrace}
use Rattle.trace.specs.Questions.{operation_in}
use Rattle.trace.specs.Reading.{reads, file_reading, trace_of}
use Rattle.trace.specs.declared.Operation.{Operation}
use Rattle.trace.proofs.Answers.{header_of, file-holds}
use Rattle.trace.proofs.TraceFile.of.Goals as goal

header-counts : {bytes : List ℕ} {o : Operation} → file_reading bytes ≡ reads (trace_of bytes) → o ≡ operation_in bytes
    → HoldsTrace bytes o.worker o.number
header-counts {bytes} e h =
    rw (h, (header_of e).workers, (header_of e).count) (file-holds bytes (trace_of bytes) e)

pub operation_in-header-requires : goal.operation_in-header-requires
operation_in-header-requires c = (header_of c.requires).inside

pub invariant_of-result : goal.invariant_of-result
invariant_of-result c =
    record { holds = header-counts c.requires c.operation_in-header.ensures }
