-- Passing: the numbers that pass a test. Sets: the sets that the functions make.
pub mod Passing
pub mod Sets
