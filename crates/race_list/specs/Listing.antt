-- The race list: what the call answers, and what it leaves in the lent table and the lent list.
-- Follows: document 01, "The questions" and "Race list".
-- Differs: nowhere. `races_answer` and `races_listed` are in the crate `races`; its call on two lists of numbers cites
-- the same.
use Rattle.std.specs.Prelude.{List, ◌≡◌, ℕ, length, Result}
use Rattle.trace.specs.declared.Refusal.{Refusal}
use Rattle.lent.specs.Written.{written_over}
use Rattle.order_table.specs.Table.{table_after}
use Rattle.race_model.specs.declared.Race.{Race}
use Rattle.races.specs.declared.answer.Races.{Races}
use Rattle.races.specs.Races.{races_answer, races_listed}

-- what the call leaves in the list: "Refused calls write nothing"; "everything past the last element written is as
-- before"
abbrev pub list_after : List ℕ → List ℕ → List Race → List Race
list_after bytes table list = written_over (races_listed bytes (length table) (length list)) list

-- the call's promise, for any bytes, any table and any list: its answer, and what is in the table and the list
-- afterwards; "16 leaves the table filled"
pub record ListCall (bytes table : List ℕ) (list : List Race) (answer : Result Races Refusal) (table-now : List ℕ)
    (list-now : List Race) : Type 0 where
  pub answers : answer ≡ races_answer bytes (length table) (length list)
  pub leaves_table : table-now ≡ table_after bytes table
  pub leaves_list : list-now ≡ list_after bytes table list
