-- Refusals: which refusal the call gives. Runs: questions 14 and 15, what the call answers and what it leaves in the
-- two buffers; joined to Refusals, and to complete runs, by the theorems in proofs/. Premises: means, the
-- runs that are found before they are written.
-- To be believed for the demands: all of Refusals. `RunsCall` is the call's promise.
pub mod Runs
pub mod Refusals
pub mod Premises
