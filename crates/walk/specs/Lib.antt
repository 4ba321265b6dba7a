-- The walk by a set of ready workers, a means: Going, the state of a walk, a worker's way along its list, a turn.
pub mod Going
