-- Lists: a set listed. A means.
pub mod Lists
