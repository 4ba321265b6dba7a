-- Memory that a call leaves is as long as it was, if there is room wherever the questions let a trace pass.
use mathlib.Core.List.{List}
use mathlib.Core.Path.{◌≡◌, refl}
use Prim.Native.Nat.{ℕ, ◌≤◌}
use lib.ListN.{length}
use Rattle.trace.specs.Reading.{Reading, refused, reads}
use Rattle.trace.specs.Trace.{Trace}
use Rattle.trace.proofs.Outcomes.{ComesOut}
use Rattle.lent.specs.Left.{left_by}
use Rattle.lent.proofs.Writing.{written-length}

pub left-length : {A : Type 0} (new : Trace → List A) (r : Reading) {Passes : Trace → Type 0} {Refused : ℕ → ℕ → Type 0}
    → ComesOut r Passes Refused → (lent : List A) → ((t : Trace) → Passes t → length (new t) ≤ length lent)
    → length (left_by new r lent) ≡ length lent
left-length new (refused q k) c lent f = refl
left-length new (reads t) c lent f = written-length (new t) lent (f t ((c.passes t).0 refl))
