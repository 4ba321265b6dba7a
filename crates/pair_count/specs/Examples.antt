-- The pairs of two workers of a trace, counted.
-- Follows: document 01, "Race list": two operations of one worker never race.
-- Differs: nowhere.
use Rattle.std.specs.Prelude.{[], ◌∷◌, ◌≡◌, refl}
use Rattle.model.specs.Examples.{write_cell}
use Rattle.race_model.specs.Examples.{three_workers}
use Rattle.words.specs.Passing.{passing}
use Rattle.pair_count.specs.Pairs.{pairs_below, pair_count}

-- of three operations, two of one worker, two pairs are of two workers
pub pair_tests : pair_count (three_workers (write_cell 2 5 ∷ write_cell 0 5 ∷ write_cell 0 6 ∷ [])) ≡ 2
unfolding passing pairs_below
pair_tests = refl
