-- Streams: what comes after a call of a reader or a writer, which has to be believed of the programs, and of no demand;
-- how many bytes it can say that it moved.
pub mod Streams
