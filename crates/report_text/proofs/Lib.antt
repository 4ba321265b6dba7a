-- Lines: how long they are. RaceLines: the lines of races, placed one behind the other. Listing: a whole report,
-- placed. Reports: the report by what the race list answers. Cut: the report of input that is cut.
-- Tells: the text tells the answer.
pub mod Lines
pub mod RaceLines
pub mod Listing
pub mod Reports
pub mod Cut
pub mod Tells
