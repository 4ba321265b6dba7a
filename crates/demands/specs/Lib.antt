-- Outcomes: what a call can answer. The customer's sentences are theorems in proofs/: Accepted, Demand1, Demand2,
-- Demand3, Report and Interface. src/, and proofs/RaceList for `race_list`, tie the promises that they speak of to the
-- calls.
-- To be believed for the demands: all of Outcomes. The heads of the other crates' specs/ name their part: together they
-- name what the statements in proofs/ reach, from definition to definition, up to a call's promise, which is pinned and
-- which the statements say in plainer words, and to what a statement says plainly; beside the structs and enums of
-- src/, of which the definitions speak.
pub mod Outcomes
