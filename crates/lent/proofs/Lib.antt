-- Writing: lent memory, written step by step, and what is in it afterwards. Left: how long it is after any call.
pub mod Writing
pub mod Left
