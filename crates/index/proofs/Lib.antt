-- The laws of the index. For the code: Filling (the operations by worker), Covering (one worker's list), Listing (all
-- lists). For callers: Operations, Lookups.
pub mod Filling
pub mod Covering
pub mod Listing
pub mod Operations
pub mod Lookups
