-- The set of posted events, a means: Events.
pub mod Events
