-- Digits: what the two tables of digits hold. Lists: a set listed.
pub mod Digits
pub mod Lists
