-- Ascii, Decimal, Lines: a text, a number and lines of numbers as bytes. Placed: means, what the functions do.
-- To be believed for the demands: all of Ascii, Decimal and Lines.
pub mod Ascii
pub mod Decimal
pub mod Lines
pub mod Placed
