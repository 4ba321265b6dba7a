-- The laws of writing a run. Turns: turn by turn. Runs: the run that holds an operation back, in two walks.
pub mod Turns
pub mod Runs
