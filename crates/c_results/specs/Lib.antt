-- Results: the struct that each answer becomes. Reading: how a C caller reads a struct; proofs/ shows that it undoes
-- Results, but for a refusal by a number 0.
-- To be believed for the demands: all of Reading. Results is what the C functions promise; that the values of a refusal
-- are 0 is said there alone.
pub mod Results
pub mod Reading
