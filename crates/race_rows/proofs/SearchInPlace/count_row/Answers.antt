-- `count_row` meets its contract. Assumes nothing.
use mathlib.Core.Path.{refl, sym, ap, ◌∙◌}
use lib.ListN.{length}
use Rattle.trace.specs.declared.Operation.{Operation}
use Rattle.trace.specs.Trace.{is_access}
use Rattle.race_rows.proofs.RowOpening.{row-passed, row-no-access}
use Rattle.race_rows.proofs.SearchInPlace.count_row.Goals as goal

pub returns : goal.returns
returns c =
    let kind = ap (λ (o : Operation). is_access o.kind) c.operation-o.ensures in
    let none = row-no-access _ _ (sym kind ∙ sym c.is_access.ensures ∙ c.if-is_access.false) in
    (sym (ap length none), row-passed c.requires.0, refl, refl)
