-- ByWorker, Renumbered, ReadBack: the tidy file's trace, and that it is read back. Writing: the file as the code
-- writes it. Questions: the file's questions and 17. Answers: what the call answers and leaves in the lent output.
-- Outputs: what is in it then.
pub mod ByWorker
pub mod Renumbered
pub mod ReadBack
pub mod Writing
pub mod Questions
pub mod Answers
pub mod Outputs
