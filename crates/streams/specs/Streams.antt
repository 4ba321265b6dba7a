-- What comes after a call of a reader or a writer, by its answer, and how many bytes it can say that it moved. Which
-- bytes the system moves, no contract can say.
-- Follows: the `read` and `write` of std's `Read` and `Write`, which answer how many bytes they moved, 0 at the end of
-- the input, or an error; that of an interrupted call is of the kind `Interrupted`. The enum and the struct are those of src/lib.rt.
-- Differs: nowhere.
use Rattle.std.specs.Prelude.{Bool, true, false, cond, List, ◌≡◌, ℕ, zero, suc, ◌+◌, ◌-◌, ◌≤◌, length, take}
use Rattle.std.specs.Prelude.{None, Some, Result, Ok, Err, IfOk}
use Rattle.std.specs.IoError.{error_kind}
use Rattle.std.specs.declared.io.Error.{Error}
use Rattle.std.specs.declared.io.ErrorKind.{ErrorKind}
use Rattle.std.specs.declared.io.ErrorKind.TheVariants.{Interrupted}
use Rattle.streams.specs.declared.Step.{Step}
use Rattle.streams.specs.declared.Step.TheVariants.{Again, Whole, Failed}
use Rattle.streams.specs.declared.Stopped.{Stopped}

-- is an error's kind that of an interrupted call?
abbrev pub is_interruption : ErrorKind → Bool
is_interruption Interrupted = true
is_interruption _ = false

-- what a call may answer that is handed the bytes behind the first `count` of `all`: an error, or how many of them it
-- moved
pub record AnswersBehind (all count : ℕ) (got : Result ℕ Error) : Type 0 where
  pub inside : count ≤ all
  pub moved : IfOk got (λ n. n ≤ all - count)

-- after a call that was handed the bytes behind the first `count`, by what it answered: a call that was interrupted
-- moved none and is made again, and one that failed otherwise ends it all, before the whole; 0 is the end of the input
-- in reading, and in writing a failure; else so many more bytes are moved, and the next call is for those behind them
abbrev pub step_after : Result ℕ Error → Bool → ℕ → Step
step_after (Err error) reading count =
    cond (is_interruption (error_kind error)) (Again count) (Failed count (Some error))
step_after (Ok zero) reading count = cond reading (Whole count) (Failed count None)
step_after (Ok (suc k)) reading count = Again (count + suc k)

-- no more than `most` bytes are moved
abbrev pub StepWithin : Step → ℕ → Type 0
StepWithin (Again count) most = count ≤ most
StepWithin (Whole count) most = count ≤ most
StepWithin (Failed count error) most = count ≤ most

-- how many bytes are moved
abbrev pub moved_by : Step → ℕ
moved_by (Again count) = count
moved_by (Whole count) = count
moved_by (Failed count error) = count

-- these are all that were to be moved
abbrev pub EndsWhole : Step → Type 0
EndsWhole (Again count) = ⊥
EndsWhole (Whole count) = Unit {0}
EndsWhole (Failed count error) = ⊥

-- a read to the part of a buffer behind the first `count` bytes: no more than there is room for, and the first `count`
-- are as before
pub record ReadBehind (buffer : List ℕ) (count : ℕ) (came : Step) (now : List ℕ) : Type 0 where
  pub within : StepWithin came (length now)
  pub kept : take count now ≡ take count buffer

-- how many bytes are read, all or not
abbrev pub count_read : Result ℕ Stopped → ℕ
count_read (Ok count) = count
count_read (Err stopped) = stopped.count
