-- What the reader's contracts cite, beside the crate `trace`: its specs/Reading says what reading a file gives.
-- Answer: the reader's answer by document 01's numbers. Premises: means. The laws are in proofs/. No demand rests on
-- any of it: the calls ask the reader, and promise more.
pub mod Answer
pub mod Premises
