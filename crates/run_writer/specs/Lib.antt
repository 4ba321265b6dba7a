-- Writing a run, a means: Writing.
pub mod Writing
