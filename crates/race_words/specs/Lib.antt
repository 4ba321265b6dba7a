-- RaceWords: what a row of races is found from, and its words; means.
pub mod RaceWords
