-- `count_prior` meets its contract. Assumes nothing.
use mathlib.Core.Path.{sym}
use Rattle.pair_order.proofs.Answers.{indexed-operations, operations-places, worker-low}
use Rattle.pair_order.proofs.count_prior.Goals as goal

pub count_prior-requires : goal.count_prior-requires
count_prior-requires c =
    worker-low (indexed-operations c.args.trace.now c.requires.0) c.requires.1 c.worker.ensures.0

pub returns : goal.returns
returns c =
    let places = operations-places (indexed-operations c.args.trace.now c.requires.0) in
    c.count_prior.ensures _ _ places c.requires.1 (sym c.worker.ensures.0)
