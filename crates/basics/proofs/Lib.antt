-- Laws that say nothing of traces. Booleans: tests. Members: membership in a list. Bits: the bits of a number.
pub mod Booleans
pub mod Members
pub mod Bits
