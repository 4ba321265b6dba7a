-- `record_passes` meets its contract. Assumes nothing.
use Rattle.reader.proofs.ReaderSteps.{passes-told}
use Rattle.reader.proofs.record_passes.Goals as goal

pub returns : goal.returns
returns c = λ before.
    passes-told _ before _ c.operation_in-o.ensures c.is_marked.ensures c.worker_known.ensures
    c.kind_known.ensures c.event_fits.ensures c.cells_fit.ensures c.both-kind.ensures
    c.both-number.ensures c.both.ensures c.both-2.ensures
