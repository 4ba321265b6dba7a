-- Intervals: overlap. Conflicts: the test holds exactly if two operations are in conflict. CellTests: so does the test
-- by the arrays of cells. MetWords: words made of tests. ReadingCells: the loop that fills the arrays.
pub mod Intervals
pub mod Conflicts
pub mod CellTests
pub mod MetWords
pub mod ReadingCells
