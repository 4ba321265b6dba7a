-- The theory of runs, over any monotone rule. In the order in which to read it (lists of operations are in the crate
-- `basics`):
-- Rule, Run, Maximal, MustPrecede: runs, and their order.
-- Steps: adding an operation to what is done. Workers: program order, counts, the lowest-numbered worker first.
-- Greedy: what is computed; joined by theorems to the definitions above it. Example: one rule worked out. The theorems
-- are in proofs/.
-- To be believed for the demands: `StandsBefore` (Run), `count` (Workers). No demand rests on the rest: what the
-- demands say of a trace's runs is in the crate `model`, in document 01's words, and joined to this theory by theorems.
pub mod Rule
pub mod Run
pub mod Maximal
pub mod MustPrecede
pub mod Steps
pub mod Workers
pub mod Greedy
pub mod Example
