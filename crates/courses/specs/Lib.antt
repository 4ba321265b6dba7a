-- Where a walk starts, with nothing left out or without an operation, and what its end tells. A means: Courses.
pub mod Courses
