-- The operations that are unordered with a worker's operation, kept as bits, a means. Kept: what the arrays hold.
-- Turns: what the functions that carry a set on know. Beginning: what those that start know.
pub mod Kept
pub mod Turns
pub mod Beginning
