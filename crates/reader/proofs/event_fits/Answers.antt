-- `event_fits` meets its contract. Assumes nothing.
use mathlib.Core.Bool.{◌&&◌}
use mathlib.Core.Path.{◌∙◌}
use lib.Dec.{leb, eqb}
use Rattle.trace.specs.Trace.{is_sync}
use Rattle.trace.specs.Questions.{event_fits}
use Rattle.reader.proofs.ReaderSteps.{if-then}
use Rattle.reader.proofs.event_fits.Goals as goal

pub returns : goal.returns
unfolding event_fits
returns c =
    let o = c.args.o in
    c.either.ensures ∙ rw (c.is_sync.ensures, c.both-fits.ensures)
    (if-then (is_sync o.kind) (leb o.number 255 && eqb o.length 0))
