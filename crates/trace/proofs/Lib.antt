-- The laws of the trace file. Numbers: LittleEndian. Questions: Answered.
-- Reading and writing, over any form: WriteRead (a written trace is read back), Records and ReadWrite (what a file that
-- reads as a trace is like, and the law in both directions), WrittenBytes (each well-formed trace has a file).
-- FirstNo: which refusal a file gets, and in Refusals which numbers and places there are. LongFiles: files that are
-- longer than any that reads as a trace.
-- For the code and for callers: Answers. For callers: Outcomes, Fitting.
pub mod LittleEndian
pub mod Answered
pub mod WriteRead
pub mod Records
pub mod ReadWrite
pub mod WrittenBytes
pub mod Outcomes
pub mod Answers
pub mod FirstNo
pub mod Refusals
pub mod LongFiles
pub mod Fitting
