-- Sets of numbers, a means: Passing, the numbers that pass a test; Words, sets of the numbers below 32.
pub mod Passing
pub mod Words
