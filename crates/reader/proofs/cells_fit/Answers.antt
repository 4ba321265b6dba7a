-- `cells_fit` meets its contract. Assumes nothing.
use mathlib.Core.Bool.{◌&&◌}
use mathlib.Core.Path.{◌∙◌}
use Prim.Native.Nat.{◌+◌}
use lib.Dec.{leb}
use Rattle.trace.specs.Trace.{is_access}
use Rattle.trace.specs.Questions.{cells_fit}
use Rattle.reader.proofs.ReaderSteps.{if-then}
use Rattle.reader.proofs.cells_fit.Goals as goal

pub returns : goal.returns
unfolding cells_fit
returns c =
    let o = c.args.o in
    c.either.ensures ∙ rw (c.is_access.ensures, c.both-fit.ensures)
    (if-then (is_access o.kind) (leb 1 o.length && leb (o.number + o.length) 4294967296))
