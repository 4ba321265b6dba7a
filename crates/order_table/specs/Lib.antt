-- Refusals: which refusal the call gives. Table: question 11, what the call answers and what it leaves in the lent
-- table; joined to Refusals, and to maximal valid executions, by the theorems in proofs/. The table itself,
-- `order_table`, is in the crate `table_rows`.
-- To be believed for the demands: all of Refusals. `TableCall` is the call's promise.
-- `table_answer` is said by `table-answers`, of `demands`.
pub mod Table
pub mod Refusals
