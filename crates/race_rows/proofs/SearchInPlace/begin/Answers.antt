-- `begin` meets its contract. Assumes nothing.
use mathlib.Core.Path.{refl}
use Rattle.meetings.proofs.Noting.{forgotten-notes}
use Rattle.race_rows.proofs.SearchInPlace.begin.Goals as goal

pub returns : goal.returns
returns c = (
  record {
    cells_hold = c.fill.ensures;
    carried = c.begin.ensures _;
    notes = forgotten-notes _ c.forget.ensures;
  },
  refl,
  refl,
)
