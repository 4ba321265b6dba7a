-- PairCounts: there are no more races than such pairs, and the counting of the pairs.
pub mod PairCounts
