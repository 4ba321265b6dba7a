-- ReadBack: reading the struct of an answer gives the answer back, unless that is a refusal by a number 0.
pub mod ReadBack
