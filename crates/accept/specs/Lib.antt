-- Refusals: which refusal a file gets. Acceptance: which files are accepted, and what the call answers; joined to
-- Refusals, and to complete runs, by the theorems in proofs/.
-- To be believed for the demands: `RefusedFile` (Refusals). `AcceptedTrace` is said by `accepted-means`, of `demands`,
-- and `accept_answer`, the call's promise, by `reading-answers`.
pub mod Acceptance
pub mod Refusals
