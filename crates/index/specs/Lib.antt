-- The index of a file's operations by worker, a means. Indexed: the operations by worker. Steps: each worker's list of
-- those that need or post an event, and the index that is handed on. Filling: while it is filled. Examples: one trace
-- worked out. Laws are in proofs/.
pub mod Indexed
pub mod Steps
pub mod Filling
pub mod Examples
