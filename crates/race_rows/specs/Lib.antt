-- Rows: what the rows of races are found from; means.
pub mod Rows
