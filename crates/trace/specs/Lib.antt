-- The trace file. In the order in which to read it:
-- LittleEndian, Form, Trace, Questions: what a file is, and which questions it is asked. Writing: the bytes of a trace,
-- and which traces have a file. Refusals: which refusal a file gets, and which numbers there are. Reading: what reading
-- a file gives, and how a call goes on to ask; joined to Writing and Refusals by the theorems in proofs/. Answer: what a
-- call answers of it. Premises: means. Examples: files worked out.
-- To be believed for the demands: all of LittleEndian, Form, Trace, Questions, Writing and Refusals; of Reading
-- `Reading` alone, the type: a refusal's number and place, or a trace; of Answer, all. What `file_reading` gives is said by
-- `reads-means`, of `demands`, and by `FileRefusedFirst`.
pub mod LittleEndian
pub mod Form
pub mod Trace
pub mod Questions
pub mod Reading
pub mod Answer
pub mod Writing
pub mod Refusals
pub mod Premises
pub mod Examples
