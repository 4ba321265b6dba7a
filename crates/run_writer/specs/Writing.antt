-- A run while it is written, turn by turn, the lowest-numbered worker first.
-- Follows: document 01, "Two runs".
-- Differs: nowhere. Means: no call's contract speaks of these.
use Rattle.std.specs.Prelude.{List, [], ◌++◌, ◌≡◌, ℕ, ◌≤◌, length, take}
use Rattle.runs.specs.Rule.{without}
use Rattle.runs.specs.Steps.{done}
use Rattle.runs.specs.Workers.{LowestSteps}
use Rattle.trace.specs.Trace.{Trace, size, worker_of}
use Rattle.model.specs.Computed.{held_back_run}
use Rattle.model.specs.Rule.{rule}
use Rattle.index.specs.Indexed.{Places}
use Rattle.walk.specs.Going.{Going, Sized}
use Rattle.courses.specs.Courses.{Opens, Ended, LeftOut}

-- the walk without a has gone on from the run `base`, the lowest-numbered worker first at each step; the run that it
-- has got to stands in the first `at` numbers
pub record Written (t : Trace) (a : ℕ) (base list ends lasts nexts counts events waiting : List ℕ) (ready at : ℕ)
    (run : List ℕ) : Type 0 where
  pub more : List ℕ
  pub going : Going t a 16 (base ++ more) list ends lasts nexts counts events waiting ready
  pub lowest : LowestSteps (worker_of t) (without (rule t) a) (done [] base) more
  pub sized : Sized ends nexts
  pub long : length (base ++ more) ≡ at
  pub room : length run ≡ 1024
  pub front : take at run ≡ base ++ more

-- for some trace of at most 1,024 operations, whose index this is
pub record Writing (order starts list ends lasts nexts counts events waiting : List ℕ) (ready at : ℕ) (run : List ℕ)
    : Type 0 where
  pub trace : Trace
  pub count : ℕ
  pub few : count ≤ 1024
  pub places : Places trace count order starts
  pub out : ℕ
  pub base : List ℕ
  pub written : Written trace out base list ends lasts nexts counts events waiting ready at run

-- for some trace of p workers and at most 1,024 operations, whose index this is: worker q's operation with `prior`
-- earlier ones is left out first
pub record Runnable (p : ℕ) (order starts list ends : List ℕ) (q prior : ℕ) : Type 0 where
  pub trace : Trace
  pub count : ℕ
  pub few : count ≤ 1024
  pub places : Places trace count order starts
  pub opens : Opens starts ends
  pub out : ℕ
  pub left_out : LeftOut trace p starts list ends q prior out

-- the done counts at the end of the walk without b, and at the end of the whole one; and the run that holds b back
pub record WritesRun (t : Trace) (b : ℕ) (held whole run : List ℕ) : Type 0 where
  pub without_b : Ended t b held
  pub whole_run : Ended t (size t) whole
  pub front : take (length (held_back_run t b)) run ≡ held_back_run t b
  pub room : length run ≡ 1024
