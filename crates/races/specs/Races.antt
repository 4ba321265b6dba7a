-- The races: question 16, what the call answers, and what it leaves in lent memory.
-- Follows: document 01, "The questions" and "Race list". The struct is that of src/lib.rt.
-- Differs: the list of race records is two lists of numbers here, the lower and the higher operations; it holds as many
-- records as the shorter of them holds numbers.
use Rattle.std.specs.Prelude.{Bool, cond, List, [], ◌∷◌, map, ◌≡◌, refl, ℕ, leb, length, Result, Ok}
use Rattle.trace.specs.declared.Refusal.{Refusal}
use Rattle.trace.specs.Answer.{answer_by}
use Rattle.trace.specs.Reading.{Reading, refused, reads, then_ask}
use Rattle.trace.specs.Trace.{Trace, size}
use Rattle.lent.specs.Written.{written_over}
use Rattle.order_table.specs.Table.{table_reading, table_after}
use Rattle.race_model.specs.declared.Race.{Race}
use Rattle.races.specs.declared.answer.Races.{Races}
use Rattle.race_model.specs.RaceList.{pair, race_list, race_count}

-- 16. "Does the lent race list hold as many records as there are races?" It holds `room` records.
abbrev pub races_fit : ℕ → Trace → Bool
races_fit room t = leb (race_count t) room

-- the file's questions, 11 and 16, where the table holds `numbers` numbers: the refusal by the first "no", or the
-- trace; the place of 16 is "the number of races"
unfoldable pub races_reading : List ℕ → ℕ → ℕ → Reading
races_reading bytes numbers room = then_ask 16 (races_fit room) race_count (table_reading bytes numbers)

-- the worker count p, the operation count n, and the number of races: "the result carries their count"
abbrev pub races_result : ℕ → ℕ → ℕ → Races
races_result p n count = record { workers = p; operations = n; races = count }

-- the answer with those of listed races
abbrev pub Listed : ℕ → ℕ → ℕ → Result Races Refusal
Listed p n count = Ok (races_result p n count)

-- what the answer says of a trace
abbrev pub races_of : Trace → Races
races_of t = races_result t.workers (size t) (race_count t)

-- that, or the refusal's number and place
abbrev pub answer_of : Reading → Result Races Refusal
answer_of = answer_by races_of

-- what the call answers
unfoldable pub races_answer : List ℕ → ℕ → ℕ → Result Races Refusal
races_answer bytes numbers room = answer_of (races_reading bytes numbers room)

-- "Refused calls write nothing"
abbrev pub listed_by : Reading → List Race
listed_by (refused q k) = []
listed_by (reads t) = race_list t

-- the races that the call lists
unfoldable pub races_listed : List ℕ → ℕ → ℕ → List Race
races_listed bytes numbers room = listed_by (races_reading bytes numbers room)

-- the lower and the higher operations of races
abbrev pub lowers : List Race → List ℕ
lowers l = map (λ r. r.lower) l

abbrev pub highers : List Race → List ℕ
highers l = map (λ r. r.higher) l

-- the race records that two lists hold: each place of both is one
unfoldable pub race_records : List ℕ → List ℕ → List Race
race_records [] higher = []
race_records (a ∷ lower) [] = []
race_records (a ∷ lower) (b ∷ higher) = pair a b ∷ race_records lower higher

-- two lists of two and three numbers, and the other way round
pub worked : (race_records (1 ∷ 2 ∷ []) (7 ∷ 8 ∷ 9 ∷ []) ≡ pair 1 7 ∷ pair 2 8 ∷ [])
    × (race_records (7 ∷ 8 ∷ 9 ∷ []) (1 ∷ 2 ∷ []) ≡ pair 7 1 ∷ pair 8 2 ∷ [])
unfolding race_records
worked = (refl, refl)

-- the shorter of two lengths
abbrev pub shorter : ℕ → ℕ → ℕ
shorter x y = cond (leb x y) x y

-- the asking and the filling, for any bytes, any table and any room: the answer, and what is in the table afterwards;
-- "Refused calls write nothing, except that 16 leaves the table filled"
pub record CountCall (bytes table : List ℕ) (room : ℕ) (answer : Result Races Refusal) (table-now : List ℕ) : Type 0
  where
    pub answers : answer ≡ races_answer bytes (length table) room
    pub leaves_table : table-now ≡ table_after bytes table

-- what the call leaves in the list of lower operations, and in that of higher ones; "everything past the last element
-- written is as before"
unfoldable pub lower_after : List ℕ → List ℕ → List ℕ → List ℕ → List ℕ
lower_after bytes table lower higher =
    written_over (lowers (races_listed bytes (length table) (shorter (length lower) (length higher)))) lower

unfoldable pub higher_after : List ℕ → List ℕ → List ℕ → List ℕ → List ℕ
higher_after bytes table lower higher =
    written_over (highers (races_listed bytes (length table) (shorter (length lower) (length higher)))) higher

-- the call's promise, for any bytes, any table and any two lists: its answer, and what is in the table and the lists
-- afterwards
pub record RacesCall (bytes table lower higher : List ℕ) (answer : Result Races Refusal)
    (table-now lower-now higher-now : List ℕ) : Type 0 where
  pub answers : answer ≡ races_answer bytes (length table) (shorter (length lower) (length higher))
  pub leaves_table : table-now ≡ table_after bytes table
  pub leaves_lower : lower-now ≡ lower_after bytes table lower higher
  pub leaves_higher : higher-now ≡ higher_after bytes table lower higher
