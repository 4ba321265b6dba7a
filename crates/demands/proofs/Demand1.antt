-- The customer's demand 1, sentence by sentence, as theorems about what the calls answer and leave in lent memory, at
-- any file bytes and lent memory: by the definitions that their contracts equal, or, of the calls that write, by their
-- promises (`TableCall`, `RunsCall`, `ListCall`, `RacesCall`, `CanonicalCall`). Those of the report are in Report.
use mathlib.Core.List.{List}
use mathlib.Core.Logic.{◌↔◌, ◌≢◌}
use mathlib.Core.Path.{◌≡◌, refl, sym, ◌∙◌}
use Prim.Native.Nat.{ℕ, ◌<◌}
use lib.ListN.{length}
use Rattle.basics.specs.Membership.{◌∈◌}
use Rattle.basics.proofs.Members.{lacks}
use Rattle.trace.specs.Reading.{refused}
use Rattle.trace.specs.Refusals.{by_earlier, by_this, file_numbers}
use Rattle.trace.specs.Trace.{Trace, size}
use Rattle.accept.specs.Acceptance.{AcceptedTrace, accept_answer}
use Rattle.accept.specs.Acceptance as accept
use Rattle.std.specs.Prelude.{ℤ, Result}
use Rattle.trace.specs.declared.Counts.{Counts}
use Rattle.races.specs.declared.answer.Races.{Races}
use Rattle.trace.specs.declared.Refusal.{Refusal}
use Rattle.trace.specs.Answer.{Refused}
use Rattle.races.specs.Races.{Listed}
use Rattle.accept.proofs.Answers.{answer-means}
use Rattle.accept.proofs.Questions.{refused-file, refused-number, comes-out}
use Rattle.lent.specs.Written.{written_over}
use Rattle.table_rows.specs.Rows.{order_table}
use Rattle.order_table.specs.Refusals.{table_numbers}
use Rattle.order_table.specs.Table.{table_reading, table_answer, TableCall}
use Rattle.order_table.specs.Table as order-table
use Rattle.order_table.proofs.Answers.{call_by, call-refused, table-refused}
use Rattle.order_table.proofs.Entries.{after-length, after_filled}
use Rattle.order_table.proofs.Questions.{table-comes-out, refused-table-number}
use Rattle.pair_order.specs.Order.{order_answer}
use Rattle.pair_order.specs.Order as pair-order
use Rattle.pair_order.specs.Refusals.{pair_numbers}
use Rattle.pair_order.proofs.Answers.{answer-unaccepted, order-refused}
use Rattle.pair_order.proofs.Questions.{pair-comes-out, refused-pair-number}
use Rattle.two_runs.specs.Refusals.{runs_numbers}
use Rattle.two_runs.specs.Runs.{runs_reading, runs_answer, RunsCall}
use Rattle.two_runs.specs.Runs as two_runs
use Rattle.two_runs.proofs.Answers as two-runs-answers
use Rattle.two_runs.proofs.Answers.{call-unpaired, runs-refused}
use Rattle.two_runs.proofs.Buffers.{after-lengths}
use Rattle.two_runs.proofs.Questions.{runs-comes-out, refused-runs-number}
use Rattle.beginning.specs.Computed.{prefix_of, beginning_of, as_prefix, numbers_of, start_of, BeginningCall}
use Rattle.beginning.specs.Returned.{Part, Returned}
use Rattle.beginning.proofs.Beginnings.{beginning-returned, prefix-returned, call-returned}
use Rattle.race_model.specs.declared.Race.{Race}
use Rattle.races.specs.Races.{races_answer, shorter, CountCall, RacesCall}
use Rattle.races.specs.Races as race-answers
use Rattle.races.specs.Refusals.{RefusedRaces, races_numbers}
use Rattle.races.proofs.Answers.{counts-refused, races-refused, races-listed}
use Rattle.races.proofs.Listed.{lists_length, lists-untouched}
use Rattle.races.proofs.Questions.{races-comes-out, refused-races-number}
use Rattle.race_list.specs.Listing.{ListCall}
use Rattle.race_list.proofs.Lists.{list_length, list-untouched}
use Rattle.canonical.specs.CanonicalFile.{canonical_reading, canonical_answer, CanonicalCall}
use Rattle.canonical.specs.CanonicalFile as canonical-file
use Rattle.canonical.specs.Refusals.{RefusedOutput, output_numbers}
use Rattle.canonical.proofs.Answers.{output-refused}
use Rattle.canonical.proofs.Answers as canonical-calls
use Rattle.canonical.proofs.Outputs as outputs
use Rattle.canonical.proofs.Questions.{output-comes-out, refused-output-number}
use Rattle.demands.specs.Outcomes.{AcceptOutcome, TableOutcome, OrderOutcome, RunsOutcome, RacesOutcome}
use Rattle.demands.specs.Outcomes.{CanonicalOutcome}
use Rattle.demands.proofs.Outcomes.{outcome-exactly}

-- "Every entry takes all bytes and numbers, finishes, and either gives its result or a refusal number from document
-- 01's questions."

-- Reading a file answers the counts of the accepted trace, or the refusal by the first "no", and nothing else:
pub reading-answers : (bytes : List ℕ) (x : Result Counts Refusal) → (accept_answer bytes ≡ x) ↔ AcceptOutcome bytes x
unfolding accept_answer
reading-answers bytes x = outcome-exactly accept.answer_of (comes-out bytes) x

-- Its refusal numbers are those of the file's questions (`file_numbers`):
pub reading-numbers : (bytes : List ℕ) (q k : ℕ) → accept_answer bytes ≡ Refused q k → q ∈ file_numbers
reading-numbers bytes q k a = refused-number ((refused-file bytes q k).0 ((answer-means bytes q k).0 a))

-- For any call that keeps the order table's promise (`TableCall`), with any bytes and any table:
module _ {bytes lent now : List ℕ} {answer : Result Counts Refusal} (c : TableCall bytes lent answer now) where
  -- It answers the counts of the accepted trace where the lent table holds at least n × p numbers, or the refusal by
  -- the first "no", and nothing else:
  pub table-answers : (x : Result Counts Refusal) → (answer ≡ x) ↔ TableOutcome bytes (length lent) x
  unfolding table_answer
  table-answers x = rw c.answers (outcome-exactly order-table.answer_of (table-comes-out bytes (length lent)) x)

  table-refusal : (q k : ℕ) → answer ≡ Refused q k → table_reading bytes (length lent) ≡ refused q k
  table-refusal q k a = (table-refused bytes lent q k).0 (sym c.answers ∙ a)

  -- Its refusal numbers are those of the file's questions, and 11 (`table_numbers`):
  pub table-numbers : (q k : ℕ) → answer ≡ Refused q k → q ∈ table_numbers
  table-numbers q k a = refused-table-number (((table-comes-out bytes (length lent)).refuses q k).0 (table-refusal q k a))

  -- document 01: "Every call that takes a file asks 1 to 10 of it itself." What reading the file refuses, it refuses
  -- alike, whatever table it is lent:
  pub table-refuses-file : (q k : ℕ) → accept_answer bytes ≡ Refused q k → answer ≡ Refused q k
  table-refuses-file q k a = c.answers ∙ sym (call-refused bytes lent a).answers

  -- "A refusal leaves lent memory untouched, but for [...]": the one table that is excepted is not this call's.
  pub table-untouched : (q k : ℕ) → answer ≡ Refused q k → now ≡ lent
  table-untouched q k a = c.leaves ∙ sym (call_by bytes lent (table-refusal q k a)).leaves

  -- Whatever is answered, the table is as long as it was:
  pub table-length : length now ≡ length lent
  table-length = rw c.leaves (after-length bytes lent)

-- The pair order answers the order of two different operations of the accepted trace, or the refusal by the first "no",
-- and nothing else:
pub order-answers : (bytes : List ℕ) (a b : ℕ) (x : Result ℤ Refusal)
    → (order_answer bytes a b ≡ x) ↔ OrderOutcome bytes a b x
unfolding order_answer
order-answers bytes a b x = outcome-exactly (pair-order.answer_of a b) (pair-comes-out bytes a b) x

-- Its refusal numbers are those of the file's questions, 12 and 13 (`pair_numbers`):
pub order-numbers : (bytes : List ℕ) (a b q k : ℕ) → order_answer bytes a b ≡ Refused q k
    → q ∈ pair_numbers
order-numbers bytes a b q k i =
    refused-pair-number (((pair-comes-out bytes a b).refuses q k).0 ((order-refused bytes a b q k).0 i))

-- What reading the file refuses, it refuses alike, whatever the numbers:
pub order-refuses-file : (bytes : List ℕ) (a b q k : ℕ) → accept_answer bytes ≡ Refused q k
    → order_answer bytes a b ≡ Refused q k
order-refuses-file bytes a b q k i = sym (answer-unaccepted bytes a b i)

-- For any call that keeps the two runs' promise (`RunsCall`), with any bytes, any two numbers and any two buffers:
module _ {bytes first second first-now second-now : List ℕ} {a b : ℕ} {answer : Result ℕ Refusal}
    (c : RunsCall bytes a b first second answer first-now second-now) where
  -- It answers the operation count where neither operation must precede the other and each buffer holds at least n
  -- numbers, or the refusal by the first "no", and nothing else:
  pub runs-answers : (x : Result ℕ Refusal) → (answer ≡ x) ↔ RunsOutcome bytes a b (length first) (length second) x
  unfolding runs_answer
  runs-answers x =
      let out = runs-comes-out bytes a b (length first) (length second) in
      rw c.answers (outcome-exactly two_runs.answer_of out x)

  runs-refusal : (q k : ℕ) → answer ≡ Refused q k
      → runs_reading bytes a b (length first) (length second) ≡ refused q k
  runs-refusal q k i = (runs-refused bytes a b first second q k).0 (sym c.answers ∙ i)

  -- Its refusal numbers are those of the pair order, 14 and 15 (`runs_numbers`):
  pub runs-numbers : (q k : ℕ) → answer ≡ Refused q k → q ∈ runs_numbers
  runs-numbers q k i =
      let out = runs-comes-out bytes a b (length first) (length second) in
      refused-runs-number ((out.refuses q k).0 (runs-refusal q k i))

  -- What reading the file refuses, it refuses alike, whatever the numbers and buffers:
  pub runs-refuse-file : (q k : ℕ) → accept_answer bytes ≡ Refused q k → answer ≡ Refused q k
  runs-refuse-file q k i = c.answers ∙ sym (two-runs-answers.call-refused bytes a b first second i).answers

  -- What the pair order refuses, it refuses alike:
  pub runs-refuse-pair : (q k : ℕ) → order_answer bytes a b ≡ Refused q k → answer ≡ Refused q k
  runs-refuse-pair q k i = c.answers ∙ sym (call-unpaired bytes a b first second i).answers

  -- "A refusal leaves lent memory untouched":
  pub runs-untouched : (q k : ℕ) → answer ≡ Refused q k → (first-now ≡ first) × (second-now ≡ second)
  runs-untouched q k i =
      let r = two-runs-answers.call_by bytes a b first second (runs-refusal q k i) in
      (c.leaves_first ∙ sym r.leaves_first, c.leaves_second ∙ sym r.leaves_second)

  -- Whatever is answered, each buffer is as long as it was:
  pub runs-lengths : (length first-now ≡ length first) × (length second-now ≡ length second)
  runs-lengths = rw (c.leaves_first, c.leaves_second) (after-lengths bytes a b first second)

-- The race list is written to a list of records (`ListCall`) or to two lists of numbers (`RacesCall`), which are one of
-- as many records as the shorter holds numbers. Both calls answer alike, and leave the same in the table (`CountCall`):
pub race-list-as-count : {bytes lent table-now : List ℕ} {list list-now : List Race} {answer : Result Races Refusal}
    → ListCall bytes lent list answer table-now list-now → CountCall bytes lent (length list) answer table-now
race-list-as-count c = record { answers = c.answers; leaves_table = c.leaves_table }

pub races-as-count : {bytes lent lower higher table-now lower-now higher-now : List ℕ} {answer : Result Races Refusal}
    → RacesCall bytes lent lower higher answer table-now lower-now higher-now
    → CountCall bytes lent (shorter (length lower) (length higher)) answer table-now
races-as-count c = record { answers = c.answers; leaves_table = c.leaves_table }

-- So, for any such call, with any bytes, any table and a list of any number of records:
module _ {bytes lent table-now : List ℕ} {room : ℕ} {answer : Result Races Refusal}
    (c : CountCall bytes lent room answer table-now) where
  -- It answers the counts of the accepted trace and the number of its races, where the table holds at least n × p
  -- numbers and the list as many records as there are races, or the refusal by the first "no", and nothing else:
  pub races-answers : (x : Result Races Refusal) → (answer ≡ x) ↔ RacesOutcome bytes (length lent) room x
  unfolding races_answer
  races-answers x = rw c.answers (outcome-exactly race-answers.answer_of (races-comes-out bytes (length lent) room) x)

  refused-by : (q k : ℕ) → answer ≡ Refused q k → RefusedRaces bytes (length lent) room q k
  refused-by q k i =
      let no = (races-refused bytes (length lent) room q k).0 (sym c.answers ∙ i) in
      ((races-comes-out bytes (length lent) room).refuses q k).0 no

  -- Its refusal numbers are those of the order table, and 16 (`races_numbers`):
  pub races-numbers : (q k : ℕ) → answer ≡ Refused q k → q ∈ races_numbers
  races-numbers q k i = refused-races-number (refused-by q k i)

  -- What the order table refuses, it refuses alike, whatever list it is lent:
  pub races-refuse-table : (q k : ℕ) → table_answer bytes lent ≡ Refused q k → answer ≡ Refused q k
  races-refuse-table q k i = c.answers ∙ sym (counts-refused bytes lent room refl i).answers

  -- It leaves the table as a call of the order table does, so that what is said of that holds here too:
  pub races-fill-table : TableCall bytes lent (table_answer bytes lent) table-now
  races-fill-table = record { answers = refl; leaves = c.leaves_table }

  -- What reading the file refuses, it refuses alike:
  pub races-refuse-file : (q k : ℕ) → accept_answer bytes ≡ Refused q k → answer ≡ Refused q k
  races-refuse-file q k i = races-refuse-table q k (table-refuses-file races-fill-table q k i)

  -- "A refusal leaves lent memory untouched, but for the one table that document 01 names": the table is as before
  -- after a refusal by another number than 16.
  pub races-table-untouched : (q k : ℕ) → q ≢ 16 → answer ≡ Refused q k → table-now ≡ lent
  races-table-untouched q k d i = go (refused-by q k i)
    where
      go : RefusedRaces bytes (length lent) room q k → table-now ≡ lent
      go (by_earlier r) =
          let no = ((table-comes-out bytes (length lent)).refuses q k).1 r in
          table-untouched races-fill-table q k ((table-refused bytes lent q k).1 no)
      go (by_this t h l n z) = absurd (d n)

  -- document 01: "16 leaves the table filled":
  pub races-table-filled : (k : ℕ) → answer ≡ Refused 16 k
      → (t : Trace) × AcceptedTrace bytes t × (table-now ≡ written_over (order_table t) lent)
  races-table-filled k i = go (refused-by 16 k i)
    where
      go : RefusedRaces bytes (length lent) room 16 k
          → (t : Trace) × AcceptedTrace bytes t × (table-now ≡ written_over (order_table t) lent)
      go (by_earlier r) = absurd (lacks 16 table_numbers tt (refused-table-number r))
      go (by_this t h l n z) = (t, h.accepted, c.leaves_table ∙ after_filled lent h)

  -- It is filled after success too:
  pub races-success-fills : {t : Trace} → AcceptedTrace bytes t → (m : ℕ)
      → answer ≡ Listed t.workers (size t) m → table-now ≡ written_over (order_table t) lent
  races-success-fills h m i =
      let (passed, m-is) = (races-listed bytes (length lent) room h m).0 (sym c.answers ∙ i) in
      c.leaves_table ∙ after_filled lent passed.filled

-- "A refusal leaves lent memory untouched": the list, of records or as two lists of numbers, by any number; and
-- whatever is answered, it is as long as it was.
module _ {bytes lent table-now : List ℕ} {list list-now : List Race} {answer : Result Races Refusal}
    (c : ListCall bytes lent list answer table-now list-now) where
  pub race-list-untouched : (q k : ℕ) → answer ≡ Refused q k → list-now ≡ list
  race-list-untouched q k i =
      let no = (races-refused bytes (length lent) (length list) q k).0 (sym c.answers ∙ i) in
      c.leaves_list ∙ list-untouched bytes lent list no

  pub race-list-length : length list-now ≡ length list
  race-list-length = rw c.leaves_list (list_length bytes lent list)

module _ {bytes lent lower higher table-now lower-now higher-now : List ℕ} {answer : Result Races Refusal}
    (c : RacesCall bytes lent lower higher answer table-now lower-now higher-now) where
  pub races-untouched : (q k : ℕ) → answer ≡ Refused q k → (lower-now ≡ lower) × (higher-now ≡ higher)
  races-untouched q k i =
      let no = (races-refused bytes (length lent) _ q k).0 (sym c.answers ∙ i) in
      rw (c.leaves_lower, c.leaves_higher) (lists-untouched bytes lent lower higher no)

  pub races-lengths : (length lower-now ≡ length lower) × (length higher-now ≡ length higher)
  races-lengths = rw (c.leaves_lower, c.leaves_higher) (lists_length bytes lent lower higher)

-- For any call that keeps the tidy file's promise (`CanonicalCall`), with any bytes and any output:
module _ {bytes lent now : List ℕ} {answer : Result ℕ Refusal} (c : CanonicalCall bytes lent answer now) where
  -- It answers the size of the accepted trace's tidy file where the output holds at least as many bytes as the file, or
  -- the refusal by the first "no", and nothing else:
  pub canonical-answers : (x : Result ℕ Refusal) → (answer ≡ x) ↔ CanonicalOutcome bytes (length lent) x
  unfolding canonical_answer
  canonical-answers x =
      rw c.answers (outcome-exactly canonical-file.answer_of (output-comes-out bytes (length lent)) x)

  canonical-refusal : (q k : ℕ) → answer ≡ Refused q k → canonical_reading bytes (length lent) ≡ refused q k
  canonical-refusal q k a = (output-refused bytes lent q k).0 (sym c.answers ∙ a)

  -- Its refusal numbers are those of the file's questions, and 17 (`output_numbers`):
  pub canonical-numbers : (q k : ℕ) → answer ≡ Refused q k → q ∈ output_numbers
  canonical-numbers q k a =
      refused-output-number (((output-comes-out bytes (length lent)).refuses q k).0 (canonical-refusal q k a))

  -- Of an accepted file, 17 refuses exactly an output of fewer bytes than the file has, and the place is 0:
  pub canonical-no-room : {t : Trace} → AcceptedTrace bytes t → (k : ℕ)
      → (answer ≡ Refused 17 k) ↔ ((length lent < length bytes) × (k ≡ 0))
  canonical-no-room {t} h k = (
    λ a. go (((output-comes-out bytes (length lent)).refuses 17 k).0 (canonical-refusal 17 k a)),
    λ p.
        let no = ((output-comes-out bytes (length lent)).refuses 17 k).1 (by_this t h p.0 refl p.1) in
        c.answers ∙ (output-refused bytes lent 17 k).1 no,
  )
    where
      go : RefusedOutput bytes (length lent) 17 k → (length lent < length bytes) × (k ≡ 0)
      go (by_earlier r) = absurd (lacks 17 file_numbers tt (refused-number r))
      go (by_this u a l n z) = (l, z)

  -- What reading the file refuses, it refuses alike, whatever output it is lent:
  pub canonical-refuses-file : (q k : ℕ) → accept_answer bytes ≡ Refused q k → answer ≡ Refused q k
  canonical-refuses-file q k a = c.answers ∙ sym (canonical-calls.call-refused c.byte_elements lent a).answers

  -- "A refusal leaves lent memory untouched":
  pub canonical-untouched : (q k : ℕ) → answer ≡ Refused q k → now ≡ lent
  canonical-untouched q k a =
      c.leaves ∙ sym (canonical-calls.call_by c.byte_elements lent (canonical-refusal q k a)).leaves

  -- Whatever is answered, the output is as long as it was:
  pub canonical-output-length : length now ≡ length lent
  canonical-output-length = rw c.leaves (outputs.after-length bytes lent)

-- The beginning of a run refuses nothing: for any two lists and any two numbers it returns the part that document 01
-- says, and only that; its numbers, at the start of the list that it is a part of:
pub beginning-returns : (first second : List ℕ) (chosen other : ℕ) (x : Part)
    → (beginning_of first second chosen other ≡ x) ↔ Returned first second chosen other x
beginning-returns first second chosen other x = beginning-returned first second chosen other x

pub beginning-shows : {first second : List ℕ} {chosen other : ℕ} {x : Part} → Returned first second chosen other x
    → (at_first at_second : ℕ × ℕ) (numbers : List ℕ) (start : ℕ × ℕ)
    → BeginningCall first second chosen other at_first at_second numbers start
    ↔ ((numbers ≡ numbers_of x) × (start ≡ start_of at_first at_second x))
beginning-shows r at_first at_second numbers start = call-returned _ _ _ _ r

-- `which_prefix` answers which list that part is of, and how many numbers it has:
pub prefix-answers : {first second : List ℕ} {chosen other : ℕ} {x : Part} → Returned first second chosen other x
    → prefix_of first second chosen other ≡ as_prefix x
prefix-answers r = prefix-returned _ _ _ _ r
