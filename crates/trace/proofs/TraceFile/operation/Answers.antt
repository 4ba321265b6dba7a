-- `operation` meets its contract. Assumes nothing.
use mathlib.Core.Path.{◌∙◌, sym}
use native.Mathlib.Omega.{arith}
use Rattle.trace.proofs.Answers.{record_of}
use Rattle.trace.proofs.TraceFile.operation.Goals as goal

pub operation_in-requires : goal.operation_in-requires
operation_in-requires c = omega (arith, (record_of _ _ c.requires).inside, c.record_start.ensures)

pub returns : goal.returns
returns c =
    c.operation_in.ensures ∙ rw c.record_start.ensures (sym (record_of _ _ c.requires).same)
