-- `go_on` meets its contract. The invariant: the worker has gone on to entry `at`, and freed nobody who goes first.
-- Assumes nothing.
use mathlib.Core.Path.{refl, sym, ◌∙◌}
use borrow.Author.Rules.{rules}
use Rattle.masks.proofs.Sets.{in-none}
use Rattle.walk.proofs.Along.{along-start, along-step, along-yield, along-wait}
use Rattle.walk.proofs.Walk.go_on.Goals as goal

pub loop-at-init : goal.loop-at-init
loop-at-init c =
    let (low, up, few) = c.requires in
    (along-start low up (search rules) (search rules), record { none = λ p i j. in-none i }, refl, refl)

pub returns-then-is_held : goal.returns-then-is_held
returns-then-is_held c =
    let (x, clear, nexts, done) = c.loop-at.invariant in
    let (entered, events, nexts', done') = c.enter.ensures in
    let held = sym c.is_held.ensures ∙ c.if-is_held.true in
    let entered' = rw c.event_of-e.ensures at entered in
    rw (c.count_before.ensures.0, events)
    (along-wait c.requires.0 x c.loop-at-test.true held entered', nexts' ∙ nexts, done' ∙ done)

pub returns-then-not-are_apart : goal.returns-then-not-are_apart
returns-then-not-are_apart c =
    let (x, clear, nexts, done) = c.loop-at.invariant in
    let free = sym c.is_held.ensures ∙ c.if-is_held.false in
    let (freed, events, waiting, nexts', done') = rw c.event_of-e.ensures at c.release-more.ensures in
    let own = rw freed at c.with.ensures in
    rw (c.count_after.ensures, events, waiting)
    (along-yield c.requires.0 x c.loop-at-test.true clear free own, nexts' ∙ nexts, done' ∙ done)

pub loop-at-preserved : goal.loop-at-preserved
loop-at-preserved c =
    let (x, clear, nexts, done) = c.loop-at.invariant in
    let free = sym c.is_held.ensures ∙ c.if-is_held.false in
    let (freed, events, waiting, nexts', done') = rw c.event_of-e.ensures at c.release-more.ensures in
    let more = c.are_apart.ensures.0 c.if-not-are_apart.false in
    let (y, apart) = along-step c.requires.0 x c.loop-at-test.true clear free (rw freed at more) in
    rw (freed, events, waiting) (y, apart, nexts' ∙ nexts, done' ∙ done)
