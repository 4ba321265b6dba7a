-- The laws of walks. Stretches: a run carried on by one worker's operations. Releasing: who waits, and who is freed.
-- Along: one worker's way along its list. Turns: turn by turn, and the end.
pub mod Stretches
pub mod Releasing
pub mod Along
pub mod Turns
