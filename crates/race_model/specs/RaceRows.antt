-- The races of one operation with later ones, as an array holds them.
-- Follows: document 01, "Race list".
-- Differs: nowhere. Means: no call's contract speaks of these; proofs/RowLists shows that the race list is these rows,
-- one behind the other.
use Rattle.std.specs.Prelude.{List, ◌≡◌, ℕ, ◌≤◌, length, take}
use Rattle.trace.specs.Trace.{Trace, size}
use Rattle.words.specs.Passing.{passing}
use Rattle.race_model.specs.RaceList.{is_race}

-- the higher operations of the races whose lower one is a
abbrev pub race_row : Trace → ℕ → List ℕ
race_row t a = passing (is_race t a) (size t)

-- an array for 1,024 operations starts with these numbers, of which there are `count`
pub record RowHolds (numbers : List ℕ) (count : ℕ) (row : List ℕ) : Type 0 where
  pub long : length row ≡ 1024
  pub few : count ≤ 1024
  pub front : take count row ≡ numbers
