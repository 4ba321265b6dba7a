-- RecordWriting: rows of races written as records, and what is left to be written. Lists: what is in the lent list after
-- the call.
pub mod RecordWriting
pub mod Lists
