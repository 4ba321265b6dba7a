-- What the functions know. Means.
use Rattle.std.specs.Prelude.{◌⊎◌, ◌≢◌, ◌≡◌, ℕ, ◌<◌, ◌≤◌}

-- a and b are two different ones of n operations
pub record Pair (n a b : ℕ) : Type 0 where
  pub first_below : a < n
  pub second_below : b < n
  pub differ : a ≢ b

-- a and b are no such pair
abbrev pub NoPair : ℕ → ℕ → ℕ → Type 0
NoPair n a b = (n ≤ a) ⊎ (n ≤ b) ⊎ (a ≡ b)
