-- Decimals: the equations of a decimal number, its digits as the kit's library has them, how many there are.
-- LineLengths: how long lines are. Placing: bytes placed one behind the other. ReadBack: a line tells its numbers.
pub mod Decimals
pub mod LineLengths
pub mod Placing
pub mod ReadBack
