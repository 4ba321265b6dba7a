-- RaceWords: a word of races. RowLoops: a row of races, word by word. RowNotes: noting what a row needs.
pub mod RaceWords
pub mod RowLoops
pub mod RowNotes
