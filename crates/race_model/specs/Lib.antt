-- Race: races, and their list. RaceList: the list of races, computed, joined to Race by the theorems in proofs/.
-- RaceRows: the races of one operation; means. Examples: traces worked out.
-- To be believed for the demands: all of Race; `pair`, a record of two numbers (RaceList). `race_list` is said by
-- `race-list-computed`, of `demands`, and `race_count`, its length, by `races-count`.
pub mod Race
pub mod RaceList
pub mod RaceRows
pub mod Examples
