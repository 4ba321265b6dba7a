-- Which refusal a file, a lent table and a lent race list get by the file's questions, 11 and 16.
-- Follows: document 01, "The questions": "the race list [asks] 11, 16"; the place of 16 is "the number of races".
-- Differs: nowhere. `AcceptedTable` and `RefusedTable`, for the file's questions and 11, are in the crate
-- `order_table`, and `RefusedNext`, for a further question, in `trace`. `race_count` is the length of the only list of
-- the races (crate `race_model`, proofs/OnlyList). proofs/Questions shows that the call refuses exactly so.
use Rattle.std.specs.Prelude.{List, [], ◌∷◌, ◌++◌, ℕ, ◌<◌, ◌≤◌}
use Rattle.trace.specs.Refusals.{RefusedNext}
use Rattle.trace.specs.Trace.{Trace}
use Rattle.order_table.specs.Refusals.{AcceptedTable, RefusedTable, table_numbers}
use Rattle.race_model.specs.RaceList.{race_count}

-- the file is accepted and the table, of `numbers` numbers, long enough (`AcceptedTable`); and the list, of `room`
-- records, holds as many as there are races
pub record AcceptedRaces (bytes : List ℕ) (numbers room : ℕ) (t : Trace) : Type 0 where
  pub filled : AcceptedTable bytes numbers t
  pub list_holds : race_count t ≤ room

-- the first "no" is one of the file's questions or 11; or there are more races than the list holds records
abbrev pub RefusedRaces : List ℕ → ℕ → ℕ → ℕ → ℕ → Type 0
RefusedRaces bytes numbers room =
    RefusedNext (RefusedTable bytes numbers) (AcceptedTable bytes numbers) 16 (λ t. room < race_count t) race_count

-- the numbers of these questions
abbrev pub races_numbers : List ℕ
races_numbers = table_numbers ++ 16 ∷ []
