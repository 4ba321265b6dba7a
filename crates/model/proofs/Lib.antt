-- WorkerOperations: a worker's operations, and their numbers. RuleLaws: the rule is monotone, and keeps program order.
-- TraceRuns: its runs are those of document 01's words. Largest, Outside: largest runs, maximal valid executions, and
-- question 10's place. SharedOrder: must-precede, and the order that all complete runs share. TableRows: the entries of
-- a row. HeldBack: the run that holds an operation back. Renumbering: runs of a trace whose operations are renumbered.
pub mod WorkerOperations
pub mod RuleLaws
pub mod TraceRuns
pub mod Largest
pub mod Outside
pub mod SharedOrder
pub mod TableRows
pub mod HeldBack
pub mod Renumbering
