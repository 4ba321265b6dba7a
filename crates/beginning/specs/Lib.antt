-- Returned: which part the call returns. Computed: the same as the code finds it, and the call's promise; joined to
-- Returned by the theorems in proofs/Beginnings. Searched: how far a search has come, for inner functions.
-- To be believed for the demands: all of Returned; of Computed how a part is shown, `numbers_of`, `start_of` and
-- `as_prefix`. `BeginningCall` and `prefix_of` are promises of calls; `beginning_of` is said by `beginning-returns`, of
-- `demands`.
pub mod Returned
pub mod Computed
pub mod Searched
