-- `list_row` meets its contract. Assumes nothing.
use mathlib.Core.Bool.{and-false}
use mathlib.Core.Path.{refl, sym, ap, ◌∙◌}
use borrow.Author.Rules.{rules}
use borrow.Author.Tests.{le-ltb}
use lib.Dec.{ltb}
use Rattle.trace.specs.declared.Operation.{Operation}
use Rattle.trace.specs.Trace.{is_access}
use Rattle.race_rows.proofs.RowOpening.{row-passed, row-known, row-empty}
use Rattle.race_rows.proofs.SearchInPlace.list_row.Goals.{else-possible-via-then-possible+else-is_access, else-possible-via-else-possible}
use Rattle.race_rows.proofs.SearchInPlace.list_row.Goals as goal

pub returns : goal.returns
returns c =
    let kind = ap (λ (o : Operation). is_access o.kind) c.operation-o.ensures in
    let known = row-known _ _ c.args.some c.requires.2 (elim c.else-possible.branch [
      | else-possible-via-then-possible+else-is_access w ↦
          rw (sym kind ∙ sym w.is_access.ensures ∙ w.if-is_access.false) (and-false (ltb 0 c.args.some))
      | else-possible-via-else-possible w ↦ rw (le-ltb 0 c.args.some w.if-possible.false)
    ]) in
    (row-empty (search rules) known, row-passed c.requires.0, refl, refl)
