-- Functions: what the C functions that write promise; the others promise the struct of what the call answers (crate
-- `c_results`). What a C caller reads off the struct is the call's answer: `c-table` and its fellows, of `demands`.
-- To be believed for the demands: nothing here.
pub mod Functions
