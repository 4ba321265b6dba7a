-- Questions: the file's questions and 12 to 15. Answers: what the call answers and leaves in the two buffers. Found:
-- the runs before they are written. Buffers: what is in them then.
pub mod Questions
pub mod Answers
pub mod Found
pub mod Buffers
