-- Moving: bytes that are moved behind those that were moved before.
pub mod Moving
