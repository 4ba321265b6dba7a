-- The entry where a list is cut, while it is looked for.
use mathlib.Core.List.{List}
use Prim.Native.Nat.{ℕ, ◌<◌, ◌≤◌}
use lib.ListN.{get_or}
use Rattle.index.specs.Steps.{ahead}

-- those from `from` up to s stand before the operation with `prior` earlier ones
pub record Passed (list : List ℕ) (from end prior s : ℕ) : Type 0 where
  pub from_on : from ≤ s
  pub up_to_end : s ≤ end
  pub before : (j : ℕ) → from ≤ j → j < s → ahead (get_or list j 0) < prior
