-- Lookups: each worker's next operation, the lowest of them, and how many come before one.
pub mod Lookups
