-- Listing: the call's promise, `ListCall`, what it answers and what it leaves in lent memory, by the definitions of the
-- crate `races`.
-- To be believed for the demands: nothing here; what they rest on stands in `races`, `race_model` and `conflicts`.
pub mod Listing
