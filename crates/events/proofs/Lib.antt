-- The laws of the set of posted events: EventBits.
pub mod EventBits
