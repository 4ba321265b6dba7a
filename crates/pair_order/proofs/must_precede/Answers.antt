-- `must_precede` meets its contract. Assumes nothing.
use Rattle.pair_order.proofs.Answers.{walked-past, indexed-operations, operations-places, worker-known}
use Rattle.pair_order.proofs.Answers.{worker-low}
use Rattle.pair_order.proofs.must_precede.Goals as goal

pub next_operation-next-requires : goal.next_operation-next-requires
next_operation-next-requires c =
    let (i, y, l, d) = c.requires in
    worker-low (indexed-operations c.args.trace.now i) l c.worker-q.ensures.0

pub returns : goal.returns
returns c =
    let (i, y, l, d) = c.requires in
    let x = indexed-operations c.args.trace.now i in
    let own = c.worker-q.ensures.0 in
    let next = c.next_operation-next.ensures _ (operations-places x) (worker-known x l own) in
    walked-past x.holds y _ l d (rw own at next)
