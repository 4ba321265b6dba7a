-- Sets of workers, as numbers: worker q is in the set where bit q is 1.
-- Follows: nothing in the documents. A means.
use Rattle.std.specs.Prelude.{◌⊎◌, ◌↔◌, ◌≢◌, ◌≡◌, ℕ, ◌/◌, ◌%◌, ◌^◌, ◌<◌}

infix 50 ◌is_in◌
pub record ◌is_in◌ (q m : ℕ) : Type 0 where
  pub bit : m / 2 ^ q % 2 ≡ 1

-- the workers below q
pub record Below (q m : ℕ) : Type 0 where
  pub all : (r : ℕ) → r < q → r is_in m
  pub only : (r : ℕ) → r is_in m → r < q

-- the lowest worker of a set
pub record Lowest (m q : ℕ) : Type 0 where
  pub few : q < 16
  pub here : q is_in m
  pub first : (r : ℕ) → r < q → r is_in m → ⊥

-- m' is m with q
pub record With (m q m' : ℕ) : Type 0 where
  pub each : (r : ℕ) → (r is_in m') ↔ ((r is_in m) ⊎ (r ≡ q))

-- m' is m without q, and a smaller number
pub record Without (m q m' : ℕ) : Type 0 where
  pub each : (r : ℕ) → (r is_in m') ↔ ((r is_in m) × (r ≢ q))
  pub less : m' < m

-- no worker is in both
pub record Apart (x y : ℕ) : Type 0 where
  pub none : (r : ℕ) → r is_in x → r is_in y → ⊥
