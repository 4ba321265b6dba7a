-- What the state of a walk shows. Moves: the start, one operation more, and when none can be added. Runs: the run whose
-- end the state is, carried on. Ends: what the end of a walk tells of its run. Answers: the row, the order of a pair,
-- question 10's place. Along: from the end of the walk without an operation to that without the worker's next one.
pub mod Moves
pub mod Runs
pub mod Ends
pub mod Answers
pub mod Along
