-- Intervals: intervals of numbers, and when two have one in common. Conflict: two operations in conflict, and the test.
-- Cells: the cells of all operations in an array, and what the functions make of it; means.
-- To be believed for the demands: `InInterval`, `Common` (Intervals); `Reads`, `Writes`, `CommonCell`, `InConflict`
-- (Conflict).
pub mod Intervals
pub mod Conflict
pub mod Cells
