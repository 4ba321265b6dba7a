-- Questions: the file's questions and 11. Answers: what the call answers and leaves in the lent table. Entries: what is
-- in it then.
pub mod Questions
pub mod Answers
pub mod Entries
