-- `beginning` meets its contract: the part starts 0 numbers behind the start of its list. Where neither list has a
-- beginning, the part is the empty one of the first list, and starts there too.
-- Assumes nothing.
use mathlib.Core.Path.{◌≡◌, sym, ◌∙◌}
use native.Mathlib.Omega.{arith}
use Prim.Native.Nat.{ℕ, ◌≤◌}
use Rattle.beginning.proofs.Beginnings.{prefix-fits}
use Rattle.beginning.proofs.beginning.Goals as goal

none_left : (n : ℕ) → n ≤ 0 → n ≡ 0
none_left n l = omega (arith, l)

pub slice_bounds-result-end : goal.slice_bounds-result-end
slice_bounds-result-end c =
    prefix-fits _ _ _ _ (sym c.which_prefix.ensures ∙ c.in-OfFirst.is)

pub slice_bounds-result-end-in-OfSecond : goal.slice_bounds-result-end-in-OfSecond
slice_bounds-result-end-in-OfSecond c =
    prefix-fits _ _ _ _ (sym c.which_prefix.ensures ∙ c.in-OfSecond.is)
