-- `next_operation` meets its contract. Assumes nothing.
use mathlib.Core.Path.{◌∙◌}
use Rattle.places.proofs.Lookups.{next-found, next_past}
use Rattle.places.proofs.next_operation.Goals as goal

pub returns-then-at-from : goal.returns-then-at-from
returns-then-at-from c =
    λ t x known.
    let from = c.from.ensures in
    let count = c.from-2.ensures in
    let end = c.from-3.ensures in
    let here = rw (from, count, end) at c.if-at-from.true in
    c.from-then-at-from.ensures ∙ rw (from, count) (next-found x c.args.done.now known here)

pub returns-else-at-from : goal.returns-else-at-from
returns-else-at-from c =
    λ t x known.
    let from = c.from.ensures in
    let count = c.from-2.ensures in
    let end = c.from-3.ensures in
    next_past x c.args.done.now known (rw (from, count, end) at c.if-at-from.false)
