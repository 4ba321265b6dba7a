-- Rows: a row and the whole table, as the code writes them. Stretch: the rows of a stretch, one by one. Own: a walk
-- kept along one worker. OwnSteps: its own steps. Passing: over those that free nobody. Keeping: the rows of one
-- worker. Filling: where such a walk starts, and worker after worker.
pub mod Rows
pub mod Stretch
pub mod Own
pub mod OwnSteps
pub mod Passing
pub mod Keeping
pub mod Filling
