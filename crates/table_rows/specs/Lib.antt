-- Rows: the order table. Filling, Passing: means, what the functions know and do.
-- To be believed for the demands: nothing here. `order_table` is said by `table-entry`, of `demands`.
pub mod Rows
pub mod Filling
pub mod Passing
