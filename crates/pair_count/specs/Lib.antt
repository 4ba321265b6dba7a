-- Pairs: pairs of operations of two workers; means. Examples: a trace worked out.
pub mod Pairs
pub mod Examples
