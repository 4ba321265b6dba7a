-- `turn` meets its contract. Assumes nothing.
use borrow.Author.Rules.{rules}
use Rattle.walk.proofs.Turns.{turned}
use Rattle.walk.proofs.Walk.turn.Goals as goal

pub returns : goal.returns
returns c =
    let (first, s) = c.requires in
    let (went, nexts, done) = rw (c.from-from.ensures, c.from-end.ensures) at c.go_on-stop.ensures in
    let rest = c.without.ensures in
    let (is, few) = c.joined.ensures in
    rw (is, nexts, done)
    (turned c.args.limits.now.lasts _ s (search rules) (search rules) first rest went
    c.goes_before-below.ensures.0 (rw is at few))
