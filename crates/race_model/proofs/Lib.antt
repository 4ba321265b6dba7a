-- RaceTests: which pairs race. RaceLists: the list of races. OnlyList: it holds exactly the races, ascending, and no
-- other list does. RowLists: the list row by row.
pub mod RaceTests
pub mod RaceLists
pub mod OnlyList
pub mod RowLists
