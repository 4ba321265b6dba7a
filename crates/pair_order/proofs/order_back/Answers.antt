-- `order_back` meets its contract. Assumes nothing.
use mathlib.Core.Path.{refl, sym}
use Rattle.pair_order.proofs.Answers.{ordered-after, ordered-neither, readable, readable-operations, readable-opens}
use Rattle.pair_order.proofs.Answers.{readable-left-out, worker-low}
use Rattle.pair_order.proofs.order_back.Goals as goal

pub walk_without-end-requires : goal.walk_without-end-requires
walk_without-end-requires c =
    let x = readable c.args.x.now in
    let low = worker-low (readable-operations x) c.requires.0.second_below c.worker.ensures.0 in
    (x.holds.most, low.0, readable-opens x)

pub must_precede-requires : goal.must_precede-requires
must_precede-requires c =
    let x = readable c.args.x.now in
    let y = c.requires.0 in
    let left = readable-left-out x y.second_below c.worker.ensures.0 c.count_prior-prior.ensures in
    let (run, end) = c.walk_without-end.ensures _ _ left in
    (x.handed.indexed, record { run = run; events = _; exhausted = end }, y.first_below, λ z. y.differ (sym z))

pub returns-then-must_precede : goal.returns-then-must_precede
returns-then-must_precede c =
    ordered-after _ _ _ refl c.requires.1 c.must_precede.ensures c.if-must_precede.true

pub returns : goal.returns
returns c =
    ordered-neither _ _ _ refl c.requires.1 c.must_precede.ensures c.if-must_precede.false
