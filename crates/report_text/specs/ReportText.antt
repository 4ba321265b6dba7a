-- The report: the text that is printed for a file, and what the call leaves in the lent output.
-- Follows: document 01, "Report program".
-- Differs: each line ends with a newline, the last one too; document 01 leaves that open.
use Rattle.std.specs.Prelude.{List, [], ◌∷◌, ◌++◌, ◌≡◌, refl, ℕ, ◌≤◌, length}
use Rattle.trace.specs.Reading.{Reading, refused, reads}
use Rattle.trace.specs.Trace.{size}
use Rattle.lent.specs.Written.{written_over}
use Rattle.race_model.specs.declared.Race.{Race}
use Rattle.race_model.specs.RaceList.{pair, race_list, race_count}
use Rattle.races.specs.Races.{races_reading}
use Rattle.text.specs.Ascii.{ascii}
use Rattle.text.specs.Decimal.{decimal_within, decimal}
use Rattle.text.specs.Lines.{labelled, count_line, pair_line}

-- `ops n workers p`
abbrev pub counts_line : ℕ → ℕ → List ℕ
counts_line n p = pair_line (ascii "ops ") n (ascii " workers ") p

-- `race lower higher`
abbrev pub race_line : Race → List ℕ
race_line r = pair_line (ascii "race ") r.lower (ascii " ") r.higher

-- "a line [..] for each race"
unfoldable pub race_lines : List Race → List ℕ
race_lines [] = []
race_lines (r ∷ rest) = race_line r ++ race_lines rest

-- `races count`
abbrev pub races_line : ℕ → List ℕ
races_line count = count_line (ascii "races ") count

-- "It prints `ops n workers p`, a line `race lower higher` for each race, and `races count`"
unfoldable pub listing : ℕ → ℕ → List Race → ℕ → List ℕ
listing p n races count = counts_line n p ++ (race_lines races ++ races_line count)

-- "or only `refused number place`"
unfoldable pub refusal : ℕ → ℕ → List ℕ
refusal number place = pair_line (ascii "refused ") number (ascii " ") place

-- by the outcome of the questions: the refusal, or the trace
abbrev pub text_of : Reading → List ℕ
text_of (refused number place) = refusal number place
text_of (reads t) = listing t.workers (size t) (race_list t) (race_count t)

-- the lines of example A4, and of a refusal
pub worked : (listing 3 7 (pair 3 5 ∷ []) 1 ≡ ascii "ops 7 workers 3\nrace 3 5\nraces 1\n")
    × (refusal 16 4097 ≡ ascii "refused 16 4097\n")
unfolding decimal_within decimal labelled count_line pair_line race_lines listing refusal
worked = (refl, refl)

-- a table for 1,024 operations and 16 workers; "with space for 4,096 races"
abbrev pub table_space : ℕ
table_space = 16384

abbrev pub race_space : ℕ
race_space = 4096

-- the text for a file: by its questions, 11 and 16, with that much space
unfoldable pub report_text : List ℕ → List ℕ
report_text bytes = text_of (races_reading bytes table_space race_space)

-- the call's promise, for any bytes and any output: how long the text is, that it fits, and that the output starts with
-- it; "everything past the last element written is as before"
pub record ReportCall (bytes lent : List ℕ) (size : ℕ) (now : List ℕ) : Type 0 where
  pub answers : size ≡ length (report_text bytes)
  pub fits : size ≤ length lent
  pub leaves : now ≡ written_over (report_text bytes) lent
