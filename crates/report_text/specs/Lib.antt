-- ReportText: the report's lines and its text; what the call leaves in the lent output. Premises: means, what the inner
-- functions know and do.
-- To be believed for the demands: the lines and what is made of them, `counts_line`, `race_line`, `race_lines`,
-- `races_line`, `listing`, `refusal`, and the space, `table_space`, `race_space` (ReportText). `ReportCall` is the call's
-- promise.
pub mod ReportText
pub mod Premises
