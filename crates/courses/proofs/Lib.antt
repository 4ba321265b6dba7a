-- The laws of courses. Filling: the entry where a list is cut. Cutting: lists cut at an operation that is left out, and
-- made whole again. Starting: the state at the start, and when an operation that was left out is let in.
pub mod Filling
pub mod Cutting
pub mod Starting
