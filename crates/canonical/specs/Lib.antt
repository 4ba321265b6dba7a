-- CanonicalFile: the tidy file, and the same workers' operations; question 17, what the call answers and what it leaves
-- in the lent output. Refusals: which refusal the call gives; joined to the call by the theorems in proofs/. Premises:
-- means, what the inner functions know. Examples: one trace worked out.
-- To be believed for the demands: `by_worker`, `canonical_trace`, `canonical_bytes`, `SameWorkers` (CanonicalFile); all of
-- Refusals. `CanonicalCall` is the call's promise.
pub mod CanonicalFile
pub mod Refusals
pub mod Premises
pub mod Examples
