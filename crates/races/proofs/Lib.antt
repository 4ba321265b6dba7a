-- PairWriting: counting races, and writing them to two lists. Questions: the file's questions, 11 and 16. Answers: what
-- the call answers and leaves in lent memory. Listed: what is in it then.
pub mod PairWriting
pub mod Questions
pub mod Answers
pub mod Listed
