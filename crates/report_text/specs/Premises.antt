-- What the inner functions know and do.
-- Follows: document 01, "Report program"; the room for a line, by the widths of its numbers.
-- Differs: nowhere. Means: the call's contract speaks of none of these.
use Rattle.std.specs.Prelude.{List, ℕ, ◌+◌, ◌*◌, ◌≤◌, length, take, Result, Ok, Err}
use Rattle.race_model.specs.declared.Race.{Race}
use Rattle.trace.specs.declared.Refusal.{Refusal}
use Rattle.races.specs.declared.answer.Races.{Races}
use Rattle.report_text.specs.ReportText.{listing, refusal}

-- two lists of at least `count` numbers of 16 bits, and room from the place `at` on for the lines of as many races: a
-- line has at most 17 bytes, those of `race 65535 65535` and the line's end
pub record RaceRoom (output : List ℕ) (at : ℕ) (lower higher : List ℕ) (count : ℕ) : Type 0 where
  pub lower_holds : count ≤ length lower
  pub higher_holds : count ≤ length higher
  pub room : at + 17 * count ≤ length output

-- and room for a whole report from the start on: 27 bytes for the counts, and 17 for the number of races
pub record ListingRoom (output lower higher : List ℕ) (count : ℕ) : Type 0 where
  pub lower_holds : count ≤ length lower
  pub higher_holds : count ≤ length higher
  pub room : 27 + 17 * count + 17 ≤ length output

-- how many races an answer lists
abbrev pub to_write : Result Races Refusal → ℕ
to_write (Err r) = 0
to_write (Ok found) = found.races

-- the text of what the race list answers, where `races` are those that the lists hold
abbrev pub answer_text : Result Races Refusal → List Race → List ℕ
answer_text (Err r) races = refusal r.number r.place
answer_text (Ok found) races = listing found.workers found.operations (take found.races races) found.races
