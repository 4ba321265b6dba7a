-- `worker` meets its contract. Assumes nothing.
use mathlib.Core.Path.{◌≡◌, ap, ◌∙◌}
use native.Mathlib.Omega.{arith}
use Rattle.trace.specs.Reading.{trace_of}
use Rattle.trace.specs.Trace.{worker_of}
use Rattle.trace.specs.declared.Operation.{Operation}
use Rattle.trace.proofs.TraceFile.worker.Goals as goal

pub returns : goal.returns
returns c =
    let h = c.args.self.now.holds in
    let known = h.each c.args.k (rw h.count at c.requires) in
    let same : c.from.result ≡ worker_of (trace_of c.args.self.now.bytes.now) c.args.k
    = c.from.ensures ∙ ap (λ (o : Operation). o.worker) c.operation-o.ensures in
    (same, omega (arith, same, known.worker, h.most))
