-- How far a search for two numbers has come. A means: inner functions promise it, and no call.
use Rattle.std.specs.Prelude.{List, ℕ, ◌≤◌}
use Rattle.beginning.specs.Computed.{first_index}

-- neither x nor y appears in the first i numbers
pub record Searched (list : List ℕ) (x y i : ℕ) : Type 0 where
  pub x_later : i ≤ first_index list x
  pub y_later : i ≤ first_index list y
