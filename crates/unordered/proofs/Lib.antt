-- Order: what is certain of an operation is so of its worker's later ones. HeldBits: the bits of the sets. Ends: the
-- ends of what one worker's set holds of another's operations. Turns: an operation taken in or let out. Entries: what
-- the table tells. Ranks: what is kept of it. Loops: moving an end up. Results: a turn. StillEnds: a turn in which
-- nothing moves. NextOperations: reading the file from its end. Beginning: the state before the first operation.
pub mod Order
pub mod HeldBits
pub mod Ends
pub mod Turns
pub mod Entries
pub mod Ranks
pub mod Loops
pub mod Results
pub mod StillEnds
pub mod NextOperations
pub mod Beginning
