-- Refusals: which refusal the call gives. Order: questions 12 and 13, and what the call answers; joined to Refusals by
-- the theorems in proofs/. What the pair order means in runs is in the crate `model`. Premises: means.
-- To be believed for the demands: all of Refusals. `order_answer` is the call's promise.
pub mod Order
pub mod Refusals
pub mod Premises
