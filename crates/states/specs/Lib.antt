-- What the state of a walk shows: States. A means; the laws are in proofs/.
pub mod States
