-- Membership: lists of numbers, and what stands in them.
-- To be believed for the demands: `◌∈◌`, `◌∉◌`, `◌⊆◌`, `SameOperations`, `Different`, `count_if`.
pub mod Membership
