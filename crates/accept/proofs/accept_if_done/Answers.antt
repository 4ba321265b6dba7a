-- `accept_if_done` meets its contract. Assumes nothing.
use mathlib.Core.Path.{sym, ◌∙◌}
use Rattle.index.proofs.Lookups.{holds-places}
use Rattle.accept.proofs.Accepting.{parts-few, done-place, answer-refused, answer-accepted}
use Rattle.accept.proofs.accept_if_done.Goals as goal

pub lowest_left-k-requires : goal.lowest_left-k-requires
lowest_left-k-requires c =
    let h = c.args.trace.now.holds in
    (h.most, parts-few h c.requires.0)

pub returns-then-k-n : goal.returns-then-k-n
returns-then-k-n c =
    let h = c.args.trace.now.holds in
    let places = holds-places h c.requires.0 in
    let place = c.lowest_left-k.ensures _ places (sym h.workers) ∙ done-place h c.requires.1 in
    answer-refused h place c.if-k-n.true

pub returns : goal.returns
returns c =
    let h = c.args.trace.now.holds in
    let places = holds-places h c.requires.0 in
    let place = c.lowest_left-k.ensures _ places (sym h.workers) ∙ done-place h c.requires.1 in
    rw c.counts.ensures (answer-accepted h place c.if-k-n.false)
