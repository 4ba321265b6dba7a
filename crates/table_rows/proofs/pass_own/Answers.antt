-- `pass_own` meets its contract. The invariant: the steps before `at` have freed nobody. Assumes nothing.
use mathlib.Core.Path.{◌≡◌, refl, sym, ◌∙◌}
use native.Mathlib.Omega.{arith}
use Rattle.table_rows.proofs.Passing.{pass-start, pass-next, pass-freed, pass-end}
use Rattle.table_rows.proofs.Passing.{passing-start, passing-next, passes-freed, passes-end}
use Rattle.table_rows.proofs.pass_own.Goals as goal

pub loop-at-init : goal.loop-at-init
loop-at-init c = (λ q. pass-start c.requires.0, refl, refl, λ q x y. passing-start c.requires.0 x y)

pub returns-then-freed-ne0 : goal.returns-then-freed-ne0
returns-then-freed-ne0 c =
    let (on, nexts, done, own) = c.loop-at.invariant in
    let l = c.loop-at-test.true in
    let (freed, posted, cleared, nexts', done') = rw c.event_of.ensures at c.release-freed.ensures in (
      λ q. rw (freed, posted, cleared, c.count_before.ensures.0) (pass-freed (on q) l),
      nexts' ∙ nexts,
      done' ∙ done,
      λ q x y. rw (freed, posted, cleared, c.count_before.ensures.0) (passes-freed (own q x y) l),
    )

pub loop-at-preserved : goal.loop-at-preserved
loop-at-preserved c =
    let (on, nexts, done, own) = c.loop-at.invariant in
    let l = c.loop-at-test.true in
    let (freed, posted, cleared, nexts', done') = rw c.event_of.ensures at c.release-freed.ensures in
    let none = sym freed ∙ c.if-freed-ne0.false in (
      λ q. rw (posted, cleared) (pass-next (on q) l none),
      nexts' ∙ nexts,
      done' ∙ done,
      λ q x y. rw (posted, cleared) (passing-next (own q x y) l none),
    )

pub returns : goal.returns
returns c =
    let (on, nexts, done, own) = c.loop-at.invariant in
    let e : c.loop-at.at ≡ c.args.end = omega (arith, c.loop-at.auto.at-end c.requires.0, c.loop-at-test.false) in (
      λ q. pass-end (rw e at (on q)) (omega arith),
      nexts,
      done,
      λ q x y. passes-end (rw e at (own q x y)) (omega arith),
    )
