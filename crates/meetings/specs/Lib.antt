-- Meetings: notes of which operations meet which cells; means.
pub mod Meetings
