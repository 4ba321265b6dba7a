-- What the functions know of the runs before they are written.
-- Follows: document 01, "Two runs".
-- Differs: nowhere. A means: the call's contract does not speak of it.
use Rattle.std.specs.Prelude.{List, ◌≡◌, ℕ, length, take}
use Rattle.trace.specs.Premises.{HoldsTrace}
use Rattle.trace.specs.Reading.{trace_of}
use Rattle.trace.specs.Trace.{Trace}
use Rattle.model.specs.Computed.{held_back_run}
use Rattle.lent.specs.Written.{written_over}
use Rattle.two_runs.specs.Refusals.{AcceptedUnordered}

-- the first n numbers are the run that holds `late` back
pub record RunFound (t : Trace) (n late : ℕ) (run : List ℕ) : Type 0 where
  pub room : length run ≡ 1024
  pub front : take n run ≡ held_back_run t late

-- of two operations of an accepted file, neither certain before the other, both runs
pub record BothFound (bytes : List ℕ) (n a b : ℕ) (one other : List ℕ) : Type 0 where
  pub unordered : AcceptedUnordered bytes a b (trace_of bytes)
  pub workers : ℕ
  pub holds : HoldsTrace bytes workers n
  pub b_late : RunFound (trace_of bytes) n b one
  pub a_late : RunFound (trace_of bytes) n a other

-- the first buffer gets the run that holds b back, the second the one that holds a back
pub record BothWritten (t : Trace) (a b : ℕ) (first first-now second second-now : List ℕ) : Type 0 where
  pub first_written : first-now ≡ written_over (held_back_run t b) first
  pub second_written : second-now ≡ written_over (held_back_run t a) second
