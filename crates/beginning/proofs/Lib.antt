-- Indices: the search for a first appearance. Lengths: how long a list's beginning is. Beginnings: what the call
-- returns, as the code comes to it; and that it is what document 01 says.
pub mod Indices
pub mod Lengths
pub mod Beginnings
