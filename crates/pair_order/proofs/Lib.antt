-- Questions: the file's questions, 12 and 13. Answers: what the call answers. Orders: what the answer says of the
-- order, and of the two operations swapped.
pub mod Questions
pub mod Answers
pub mod Orders
