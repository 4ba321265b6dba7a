-- `find_run` meets its contract. Assumes nothing.
use Rattle.index.proofs.Lookups.{holds-places}
use Rattle.pair_order.proofs.Answers.{readable, readable-operations, readable-left-out, worker-low}
use Rattle.two_runs.proofs.Found.{readable-runnable}
use Rattle.two_runs.proofs.find_run.Goals as goal

pub write_run-requires : goal.write_run-requires
write_run-requires c =
    let x = readable c.args.x.now in
    let own = c.worker.ensures.0 in
    let low = worker-low (readable-operations x) c.requires own in
    (x.holds.most, low.0, readable-runnable x c.requires own c.count_prior-prior.ensures)

pub returns : goal.returns
returns c =
    let x = readable c.args.x.now in
    let left = readable-left-out x c.requires c.worker.ensures.0 c.count_prior-prior.ensures in
    c.write_run.ensures _ _ _ x.holds.few (holds-places x.holds x.handed.indexed) left
