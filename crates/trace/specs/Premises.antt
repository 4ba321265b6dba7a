-- What callers know of a file that reads as a trace.
-- Follows: document 01, "The questions", in what passing them means.
-- Differs: nowhere. Means: it follows from how the file reads (proofs/Answers), so that nobody has to believe it.
use Rattle.std.specs.Prelude.{List, ◌≡◌, ℕ, ◌<◌, ◌≤◌}
use Rattle.trace.specs.Reading.{file_reading, reads, trace_of}
use Rattle.trace.specs.Trace.{Trace, size, operation}
use Rattle.trace.specs.Writing.{Admitted}

-- the file reads as a trace, of p workers and n operations
pub record HoldsTrace (bytes : List ℕ) (p n : ℕ) : Type 0 where
  pub trace : file_reading bytes ≡ reads (trace_of bytes)
  pub workers : (trace_of bytes).workers ≡ p
  pub count : size (trace_of bytes) ≡ n
  pub some : 1 ≤ p
  pub most : p ≤ 16
  pub few : n ≤ 1024
  pub each : (k : ℕ) → k < n → Admitted p (operation (trace_of bytes) k)

-- a trace has at most sixteen workers, and its operations are admitted by the questions
pub record Fits (t : Trace) : Type 0 where
  pub most : t.workers ≤ 16
  pub each : (k : ℕ) → k < size t → Admitted t.workers (operation t k)
