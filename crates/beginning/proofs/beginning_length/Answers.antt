-- `beginning_length` meets its contract: neither number appears in the first i numbers.
-- Assumes nothing.
use mathlib.Core.Path.{sym, ◌∙◌}
use Rattle.beginning.proofs.Lengths.{searched-all, searched-other, searched-past, searched-more}
use Rattle.beginning.proofs.Lengths.{searched-found, searched-without}
use Rattle.beginning.proofs.beginning_length.Goals as goal

pub returns-then-x-other-clause-length : goal.returns-then-x-other-clause-length
returns-then-x-other-clause-length c =
    searched-other c.loop-i.invariant c.loop-i-test.true (sym c.from-x.ensures ∙ c.if-x-other.true)

pub first_index-o-requires : goal.first_index-o-requires
first_index-o-requires c =
    let seen = c.from-x.ensures in
    searched-past c.loop-i.invariant c.loop-i-test.true (λ e. c.if-x-other.false (seen ∙ e))

pub returns-then-o-list-clause-length : goal.returns-then-o-list-clause-length
returns-then-o-list-clause-length c =
    let seen = c.from-x.ensures in
    searched-found c.loop-i.invariant c.loop-i-test.true (λ e. c.if-x-other.false (seen ∙ e))
    (sym seen ∙ c.if-x-chosen.true) c.first_index-o.ensures c.if-o-list.true

pub returns-then-x-chosen-clause-length : goal.returns-then-x-chosen-clause-length
returns-then-x-chosen-clause-length c =
    let seen = c.from-x.ensures in
    searched-without c.loop-i.invariant c.loop-i-test.true (λ e. c.if-x-other.false (seen ∙ e))
    (sym seen ∙ c.if-x-chosen.true) c.first_index-o.ensures c.if-o-list.false

pub loop-i-preserved : goal.loop-i-preserved
loop-i-preserved c =
    let seen = c.from-x.ensures in
    let s = c.loop-i.invariant in
    searched-more s c.loop-i-test.true (λ e. c.if-x-other.false (seen ∙ e)) (λ e. c.if-x-chosen.false (seen ∙ e))

pub returns-clause-length : goal.returns-clause-length
returns-clause-length c = searched-all c.loop-i.invariant c.loop-i-test.false
