-- The starred examples of document 01, one list, checked against the definitions that the calls' contracts cite: from
-- file bytes where document 01 gives a trace.
-- Follows: document 01, "Examples": A1, A2, A3, B1, B2, C, D, E and F.
-- Differs: nowhere. F, which has no trace, is checked against the definition of a common cell. The other examples are
-- run by programs (crates `conformance`, `report` and `report_cases`).
use Rattle.std.specs.Prelude.{List, [], ◌∷◌, ◌≡◌, refl, ℕ, ◌*◌, pos, negsuc, take, drop, replicate}
use Rattle.std.proofs.Common.{arith}
use Rattle.trace.specs.declared.Operation.{Operation}
use Rattle.trace.specs.Examples.{file_a}
use Rattle.trace.specs.LittleEndian.{value}
use Rattle.trace.specs.Questions.{operation_in, marked, ranked, is_header, workers_fit, header_question, kind_known}
use Rattle.trace.specs.Questions.{event_fits, cells_fit, record_question}
use Rattle.trace.specs.Reading.{reads, reading_from, reading, file_reading}
use Rattle.trace.specs.Trace.{Trace, of_worker, is_sync, is_access}
use Rattle.model.specs.Computed.{largest_run, largest_run_without, first_outside, row, must_precede_in, pair_order}
use Rattle.model.specs.Computed.{held_back_run}
use Rattle.model.specs.Examples.{post, wait, read_cell, write_cell}
use Rattle.trace.specs.Answer.{Refused}
use Rattle.accept.specs.Acceptance.{Accepted}
use Rattle.pair_order.specs.Order.{Ordered}
use Rattle.races.specs.Races.{Listed}
use Rattle.accept.specs.Acceptance.{acceptance, accept_answer}
use Rattle.table_rows.specs.Rows.{rows}
use Rattle.order_table.specs.Table.{table_reading, table_answer, table_after}
use Rattle.pair_order.specs.Order.{pair_reading, order_answer}
use Rattle.two_runs.specs.Runs.{runs_reading, first_after, second_after}
use Rattle.beginning.specs.Computed.{first_index, beginning_length, prefix_of, beginning_of}
use Rattle.beginning.specs.Returned.{of_second}
use Rattle.conflicts.specs.Intervals.{Common, overlap}
use Rattle.conflicts.specs.Conflict.{in_conflict}
use Rattle.race_model.specs.RaceList.{is_race, pair, races_of, races_below, race_list}
use Rattle.races.specs.Races.{races_reading, races_answer, races_listed}
use Rattle.starred.specs.Files.{file_b, file_c, wait_then_post, post_then_wait, file_e}

-- a trace of p workers
abbrev pub trace_with : ℕ → List Operation → Trace
trace_with p l = record { workers = p; operations = l }

-- the files are those of document 01's traces; A's is shown in the crate `trace`
pub files :
    (file_reading file_b ≡ reads (trace_with 3 (write_cell 0 7 ∷ post 0 1 ∷ post 1 1 ∷ wait 2 1 ∷ read_cell 2 7 ∷ [])))
    × (file_reading file_c ≡ reads (trace_with 2 (wait 0 1 ∷ post 0 2 ∷ wait 1 2 ∷ post 1 1 ∷ [])))
    × (file_reading wait_then_post ≡ reads (trace_with 1 (wait 0 1 ∷ post 0 1 ∷ [])))
    × (file_reading post_then_wait ≡ reads (trace_with 1 (post 0 1 ∷ wait 0 1 ∷ [])))
    × (file_reading file_e ≡ reads (trace_with 1 []))
unfolding value operation_in marked ranked is_header workers_fit header_question of_worker is_sync is_access kind_known
    event_fits cells_fit record_question reading_from reading file_reading
files = (refl, refl, refl, refl, refl)

-- A's seven rows
abbrev pub rows_a : List ℕ
rows_a =
    0 ∷ 0 ∷ 0
    ∷ 1 ∷ 0 ∷ 0
    ∷ 2 ∷ 0 ∷ 3
    ∷ 2 ∷ 1 ∷ 3
    ∷ 2 ∷ 2 ∷ 0
    ∷ 2 ∷ 2 ∷ 1
    ∷ 2 ∷ 2 ∷ 2
    ∷ []

-- A's two runs for 3 and 5
abbrev pub run_with3_first : List ℕ
run_with3_first = 0 ∷ 1 ∷ 2 ∷ 3 ∷ 4 ∷ 5 ∷ 6 ∷ []

abbrev pub run_with5_first : List ℕ
run_with5_first = 0 ∷ 1 ∷ 2 ∷ 4 ∷ 5 ∷ 6 ∷ 3 ∷ []

-- a lent table or buffer of m numbers, each 9
abbrev pub nines : ℕ → List ℕ
nines m = replicate m 9

-- document 01: "The row of operation k is the p numbers that start at k × p"
abbrev pub row_in : ℕ → ℕ → List ℕ → List ℕ
row_in p k table = take p (drop (k * p) table)

pub starred :
    -- A1: "rows: 0 0 0; 1 0 0; 2 0 3; 2 1 3; 2 2 0; 2 2 1; 2 2 2"
    (table_after file_a (nines 21) ≡ rows_a)
    -- A2: "order of 0 and 3 is −1, of 3 and 0 is +1, of 3 and 5 is 0"
    × (order_answer file_a 0 3 ≡ Ordered (negsuc 0))
    × (order_answer file_a 3 0 ≡ Ordered (pos 1))
    × (order_answer file_a 3 5 ≡ Ordered (pos 0))
    -- A3: "runs for 3 and 5: 0 1 2 3 4 5 6 and 0 1 2 4 5 6 3. Chosen 5, other 3: 0 1 2 4 5"
    × (first_after file_a 3 5 (nines 7) (nines 7) ≡ run_with3_first)
    × (second_after file_a 3 5 (nines 7) (nines 7) ≡ run_with5_first)
    × (beginning_of run_with3_first run_with5_first 5 3 ≡ of_second (0 ∷ 1 ∷ 2 ∷ 4 ∷ 5 ∷ []))
    -- B1: "rows 0 and 4: 0 1 2 and 2 1 1"
    × (row_in 3 0 (table_after file_b (nines 15)) ≡ 0 ∷ 1 ∷ 2 ∷ [])
    × (row_in 3 4 (table_after file_b (nines 15)) ≡ 2 ∷ 1 ∷ 1 ∷ [])
    -- B2: "race 0 4"
    × (races_listed file_b 15 1 ≡ pair 0 4 ∷ [])
    -- C: "refused 10 place 0"
    × (accept_answer file_c ≡ Refused 10 0)
    -- D: "Wait 1 then Post 1: refused 10 place 0; Post 1 then Wait 1 is accepted"
    × (accept_answer wait_then_post ≡ Refused 10 0)
    × (accept_answer post_then_wait ≡ Accepted 1 2)
    -- E: "accepted, races 0"
    × (accept_answer file_e ≡ Accepted 1 0)
    × (races_answer file_e 0 0 ≡ Listed 1 0 0)
    -- F: "Write 10 len 5 and Read 15 len 1 have no common cell; with Read 14 they do"
    × (Common 10 5 15 1 → ⊥)
    × Common 10 5 14 1
unfolding value operation_in marked ranked is_header workers_fit header_question of_worker is_sync is_access kind_known
    event_fits cells_fit record_question reading_from reading file_reading largest_run first_outside acceptance accept_answer
    largest_run_without row rows table_reading table_answer table_after must_precede_in pair_order held_back_run pair_reading
    order_answer runs_reading first_after second_after first_index beginning_length prefix_of overlap in_conflict is_race
    races_of races_below race_list races_reading races_answer races_listed
starred = (
  refl,
  refl,
  refl,
  refl,
  refl,
  refl,
  refl,
  refl,
  refl,
  refl,
  refl,
  refl,
  refl,
  refl,
  refl,
  λ c. omega (arith, c.in_first.below, c.in_second.from),
  record {
    number = 14;
    in_first = record { from = omega arith; below = omega arith };
    in_second = record { from = omega arith; below = omega arith };
  },
)
