-- Sets of workers, a means: Masks.
pub mod Masks
