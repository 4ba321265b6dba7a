-- What a call can answer: its result, or a refusal by one of the questions that it asks.
-- Follows: the letter, demand 1; document 01, "The questions".
-- Differs: nowhere.
use Rattle.std.specs.Prelude.{List, ℕ, length}
use Rattle.trace.specs.Form.{base}
use Rattle.trace.specs.Trace.{Trace, size}
use Rattle.model.specs.Computed.{pair_order}
use Rattle.std.specs.Prelude.{ℤ, Result}
use Rattle.trace.specs.declared.Counts.{Counts}
use Rattle.races.specs.declared.answer.Races.{Races}
use Rattle.trace.specs.declared.Refusal.{Refusal}
use Rattle.trace.specs.Answer.{Refused}
use Rattle.accept.specs.Acceptance.{Accepted}
use Rattle.order_table.specs.Table.{Filled}
use Rattle.pair_order.specs.Order.{Ordered}
use Rattle.two_runs.specs.Runs.{Runs}
use Rattle.races.specs.Races.{Listed}
use Rattle.canonical.specs.CanonicalFile.{Written}
use Rattle.accept.specs.Acceptance.{AcceptedTrace}
use Rattle.accept.specs.Refusals.{RefusedFile}
use Rattle.order_table.specs.Refusals.{AcceptedTable, RefusedTable}
use Rattle.pair_order.specs.Refusals.{AcceptedPair, RefusedPair}
use Rattle.two_runs.specs.Refusals.{AcceptedRuns, RefusedRuns}
use Rattle.race_model.specs.RaceList.{race_list, race_count}
use Rattle.races.specs.Refusals.{AcceptedRaces, RefusedRaces}
use Rattle.canonical.specs.CanonicalFile.{canonical_bytes}
use Rattle.canonical.specs.Refusals.{AcceptedOutput, RefusedOutput}
use Rattle.report_text.specs.ReportText.{listing, refusal, table_space, race_space}

-- of any call: its result for a trace that passes the questions, or the refusal by the first "no" among them
pub data Outcome {X : Type 0} (result : Trace → X) (refusal : ℕ → ℕ → X)
    (Passes : Trace → Type 0) (RefusedBy : ℕ → ℕ → Type 0) : X → Type 0 where
  gives : {t : Trace} → Passes t → Outcome result refusal Passes RefusedBy (result t)
  refuses : {q k : ℕ} → RefusedBy q k → Outcome result refusal Passes RefusedBy (refusal q k)

-- reading a file: the counts of the accepted trace, or the refusal by the file's questions
abbrev pub AcceptOutcome : List ℕ → Result Counts Refusal → Type 0
AcceptOutcome bytes =
    Outcome (λ t. Accepted t.workers (size t)) Refused (AcceptedTrace bytes) (RefusedFile bytes)

-- the order table, where the lent one holds `room` numbers: the counts, or the refusal by the file's questions and 11
abbrev pub TableOutcome : List ℕ → ℕ → Result Counts Refusal → Type 0
TableOutcome bytes room =
    Outcome
    (λ t. Filled t.workers (size t))
    Refused
    (AcceptedTable bytes room)
    (RefusedTable bytes room)

-- the pair order: the order of two different operations of the accepted trace, or the refusal by the file's questions,
-- 12 and 13
abbrev pub OrderOutcome : List ℕ → ℕ → ℕ → Result ℤ Refusal → Type 0
OrderOutcome bytes a b =
    Outcome (λ t. Ordered (pair_order t a b)) Refused (AcceptedPair bytes a b) (RefusedPair bytes a b)

-- the two runs, where the buffers hold x and y numbers: the operation count, or the refusal by the file's questions and
-- 12 to 15
abbrev pub RunsOutcome : List ℕ → ℕ → ℕ → ℕ → ℕ → Result ℕ Refusal → Type 0
RunsOutcome bytes a b x y =
    Outcome (λ t. Runs (size t)) Refused (AcceptedRuns bytes a b x y) (RefusedRuns bytes a b x y)

-- the races, where the table holds `numbers` numbers and the list `room` records: the counts and the number of races,
-- or the refusal by the file's questions, 11 and 16
abbrev pub RacesOutcome : List ℕ → ℕ → ℕ → Result Races Refusal → Type 0
RacesOutcome bytes numbers room =
    Outcome
    (λ t. Listed t.workers (size t) (race_count t))
    Refused
    (AcceptedRaces bytes numbers room)
    (RefusedRaces bytes numbers room)

-- the tidy file, where the output holds `room` bytes: its size, or the refusal by the file's questions and 17
abbrev pub CanonicalOutcome : List ℕ → ℕ → Result ℕ Refusal → Type 0
CanonicalOutcome bytes room =
    Outcome
    (λ t. Written (length (canonical_bytes base t)))
    Refused
    (AcceptedOutput bytes room)
    (RefusedOutput bytes room)

-- the report: the lines of the counts, of each race and of their number, or the line of the refusal by the file's
-- questions, 11 and 16, with a table for every accepted file and "space for 4,096 races"
abbrev pub ReportOutcome : List ℕ → List ℕ → Type 0
ReportOutcome bytes =
    Outcome
    (λ t. listing t.workers (size t) (race_list t) (race_count t))
    refusal
    (AcceptedRaces bytes table_space race_space)
    (RefusedRaces bytes table_space race_space)
