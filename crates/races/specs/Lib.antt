-- Refusals: which refusal the call gives. Races: question 16, what the call answers and what it leaves in lent memory;
-- joined to Refusals, and to the list of the races (crate `race_model`), by the theorems in proofs/. Premises: means,
-- what the inner functions know and do.
-- To be believed for the demands: all of Refusals; `race_records`, the records that two lists of numbers hold, and
-- `shorter` (Races). `RacesCall` and `CountCall` are promises of calls. The number of races, `race_count`, is the length
-- of the only list of the races.
pub mod Races
pub mod Refusals
pub mod Premises
