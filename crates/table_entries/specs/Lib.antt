-- Entries: an accepted file and its order table, and two operations of it; means.
-- To be believed for the demands: nothing here.
pub mod Entries
