-- Runs of a trace. In the order in which to read it:
-- Runs, LargestRuns, Orders, Moves: in document 01's and report 1084's words.
-- Rule: document 01's rule as a test. Computed: what the calls answer. Both are joined to the files above by the
-- theorems in proofs/. `WorkersKnown`, in Rule, is the one premise of those theorems on a trace; question 6 sees to it.
-- Examples: traces worked out.
-- To be believed for the demands: all of Runs, LargestRuns, Orders and Moves. `pair_order`, of Computed, is said by
-- `order-before`, `order-after` and `order-otherwise`, of `demands`.
pub mod Runs
pub mod LargestRuns
pub mod Orders
pub mod Moves
pub mod Rule
pub mod Computed
pub mod Examples
