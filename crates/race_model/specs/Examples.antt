-- Races of three traces worked out: writes of one cell by three workers; a read between them; a write that is certain
-- before a read. Document 01's own examples are computed from file bytes, above this crate.
-- Follows: document 01, "Race list".
-- Differs: nowhere.
use Rattle.std.specs.Prelude.{List, [], ◌∷◌, ◌≡◌, refl}
use Rattle.trace.specs.declared.Operation.{Operation}
use Rattle.trace.specs.Trace.{Trace, is_access}
use Rattle.model.specs.Computed.{largest_run_without, must_precede_in}
use Rattle.model.specs.Examples.{post, wait, read_cell, write_cell}
use Rattle.conflicts.specs.Intervals.{overlap}
use Rattle.conflicts.specs.Conflict.{in_conflict}
use Rattle.race_model.specs.RaceList.{is_race, pair, races_of, races_below, race_list}

abbrev pub three_workers : List Operation → Trace
three_workers l = record { workers = 3; operations = l }

-- the file order is not that of the workers; ascending by lower, then higher
pub list_tests : (race_list (three_workers (write_cell 2 5 ∷ write_cell 0 5 ∷ write_cell 1 5 ∷ []))
    ≡ pair 0 1 ∷ pair 0 2 ∷ pair 1 2 ∷ [])
    -- the two reads do not race with each other, nor two operations of one worker, nor those of other cells
    × (race_list (three_workers (read_cell 0 5 ∷ write_cell 1 5 ∷ read_cell 2 5 ∷ write_cell 2 5 ∷ write_cell 0 6 ∷ []))
    ≡ pair 0 1 ∷ pair 0 3 ∷ pair 1 2 ∷ pair 1 3 ∷ [])
    -- the read waits for the write's worker; then it is certain after it
    × (race_list (three_workers (write_cell 0 5 ∷ post 0 1 ∷ wait 1 1 ∷ read_cell 1 5 ∷ [])) ≡ [])
unfolding is_access overlap in_conflict is_race races_of races_below race_list largest_run_without must_precede_in
list_tests = (refl, refl, refl)
