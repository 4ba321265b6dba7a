-- `lowest_left` meets its contract. The invariant: the lowest of the workers below q. Assumes nothing.
use mathlib.Core.Path.{sym, ◌∙◌}
use native.Mathlib.Omega.{arith}
use Rattle.places.proofs.Lookups.{lowest-none, lowest-new, lowest-old}
use Rattle.places.proofs.lowest_left.Goals as goal
use Rattle.places.proofs.lowest_left.Goals.{then-k-least, else-k-least}

pub loop-q-init : goal.loop-q-init
loop-q-init c = λ t x e. sym (lowest-none t c.args.done.now ∙ x.count)

pub loop-q-preserved : goal.loop-q-preserved
loop-q-preserved c =
    λ t x e.
    let old = c.loop-q.invariant t x e in
    let next = c.next_operation-k.ensures t x (omega (arith, c.loop-q-test.true, e)) in
    elim c.if-k-least.branch [
      | then-k-least w ↦ w.least-is ∙ lowest-new t c.args.done.now _ old next w.if-k-least.true
      | else-k-least w ↦ w.least-is ∙ lowest-old t c.args.done.now _ old next w.if-k-least.false
    ]
