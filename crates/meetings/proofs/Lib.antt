-- Noting: how notes begin, and what becomes of them where a slot is taken and a block is noted.
pub mod Noting
