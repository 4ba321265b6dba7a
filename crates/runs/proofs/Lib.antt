-- The theorems. Tools: Lengths, Done. How a rule is put together: MonotoneTests, ProgramOrder.
-- The theory: Exchange, MaximalRuns, RunsWithout, CarryOn, AnyOrder, Before, SharedOrder, HoldingBack.
-- The means against the definitions: RunSteps, GreedyRuns, Counts, Rows, CanonicalOrder, Places, LowestWorker.
-- Example: one rule worked out.
pub mod Lengths
pub mod Done
pub mod MonotoneTests
pub mod ProgramOrder
pub mod CanonicalOrder
pub mod RunSteps
pub mod Exchange
pub mod MaximalRuns
pub mod RunsWithout
pub mod GreedyRuns
pub mod CarryOn
pub mod AnyOrder
pub mod Before
pub mod SharedOrder
pub mod Counts
pub mod Places
pub mod Rows
pub mod LowestWorker
pub mod HoldingBack
pub mod Example
