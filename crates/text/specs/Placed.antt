-- Bytes placed in lent memory from some place on: what the functions do.
-- Follows: document 01, "The questions": "everything past the last element written is as before"; what stands before
-- the place is as before too.
-- Differs: nowhere. Means: no contract of a call that a user makes speaks of it.
use Rattle.std.specs.Prelude.{List, ◌++◌, ◌≡◌, ℕ, ◌+◌, length, take, drop}
use Rattle.lent.specs.Written.{written_over}

-- the memory `old` holds `now` after `new` is written to it from the place `at` on, up to the place `end`
pub record Placed (old : List ℕ) (at : ℕ) (new : List ℕ) (end : ℕ) (now : List ℕ) : Type 0 where
  pub ends : end ≡ at + length new
  pub whole : now ≡ take at old ++ written_over new (drop at old)
