-- `count_prior` meets its contract. The invariant: the operation is not found before `at`. Assumes nothing.
use mathlib.Core.Path.{sym, ◌∙◌}
use native.Mathlib.Omega.{arith}
use Rattle.places.proofs.Lookups.{prior-found, prior-there}
use Rattle.places.proofs.count_prior.Goals as goal

pub returns-then-from-k : goal.returns-then-from-k
returns-then-from-k c =
    λ t n x below own.
    let from = c.from-first.ensures in
    let end = c.from-at-end.ensures in
    let found = sym c.from.ensures ∙ c.if-from-k.true in
    let lower = rw from at c.loop-at.invariant.from_on in
    rw from (prior-found x below own lower (rw end at c.loop-at-test.true) found)

pub returns : goal.returns
returns c =
    λ t n x below own.
    let unfound = rw c.from-first.ensures at c.loop-at.invariant in
    absurd (prior-there x below own unfound (omega (arith, c.from-at-end.ensures, c.loop-at-test.false)))
