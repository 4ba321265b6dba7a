-- ReaderSteps, for the code: each step of the reader against reading. Answers, for callers: what the answer says.
pub mod ReaderSteps
pub mod Answers
