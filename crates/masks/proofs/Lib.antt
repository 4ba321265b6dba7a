-- The laws of sets of workers: Sets.
pub mod Sets
