-- Counts: several numbers copied, and all of a row by two copies that overlap.
pub mod Counts
