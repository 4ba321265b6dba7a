-- What the inner functions know, and what they do.
-- Follows: document 01, "Race list".
-- Differs: nowhere. Means: the call's contract speaks of none of these.
use Rattle.std.specs.Prelude.{cond, List, [], ◌≡◌, ℕ, ◌<◌, leb, length, get_or, Option, None, Some, Result}
use Rattle.trace.specs.declared.Refusal.{Refusal}
use Rattle.trace.specs.Trace.{Trace, size}
use Rattle.lent.specs.Written.{written_over}
use Rattle.race_model.specs.RaceList.{race_list, race_count}
use Rattle.race_model.specs.RaceRows.{race_row}
use Rattle.races.specs.Races.{races_answer, races_listed, lowers, highers, shorter}
use Rattle.races.specs.declared.answer.Races.{Races}

-- what stands at an operation tells, where it is 0, that the operation has no race with a later one
pub record Hints (t : Trace) (counts : List ℕ) : Type 0 where
  pub long : length counts ≡ 1024
  pub none : (a : ℕ) → a < size t → get_or counts a 0 ≡ 0 → race_row t a ≡ []

-- all races are written to the two lists, and `count` is their number
pub record AllWritten (t : Trace) (count : ℕ) (lower lower-now higher higher-now : List ℕ) : Type 0 where
  pub counts : count ≡ race_count t
  pub all_lower : lower-now ≡ written_over (lowers (race_list t)) lower
  pub all_higher : higher-now ≡ written_over (highers (race_list t)) higher

-- a number where it is above a bound
abbrev pub too_many : ℕ → ℕ → Option ℕ
too_many count room = cond (leb count room) None (Some count)

-- the listing, where the table, of `numbers` numbers, is filled
pub record ListsCall (bytes : List ℕ) (numbers : ℕ) (lower higher : List ℕ) (answer : Result Races Refusal)
    (lower-now higher-now : List ℕ) : Type 0 where
  pub answers : answer ≡ races_answer bytes numbers (shorter (length lower) (length higher))
  pub lists_lower : lower-now
      ≡ written_over (lowers (races_listed bytes numbers (shorter (length lower) (length higher)))) lower
  pub lists_higher : higher-now
      ≡ written_over (highers (races_listed bytes numbers (shorter (length lower) (length higher)))) higher
