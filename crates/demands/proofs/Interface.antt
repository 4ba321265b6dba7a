-- The C interface: what a C caller reads off the struct that a function returns is the call's answer, so that every
-- sentence about the calls holds of it: for any function that keeps its promise (`TableFunction`, `RunsFunction`,
-- `RacesFunction`, `CanonicalFunction`, or the equation that its contract is), at any bytes, any numbers and any lent
-- memory.
use mathlib.Core.List.{List}
use mathlib.Core.Path.{◌≡◌, refl}
use Prim.Native.Nat.{ℕ}
use lib.ListN.{length}
use Rattle.basics.proofs.Members.{lacks}
use Rattle.trace.specs.Refusals.{file_numbers}
use Rattle.accept.specs.Acceptance.{accept_answer}
use Rattle.order_table.specs.Refusals.{table_numbers}
use Rattle.order_table.specs.Table.{table_answer, TableCall}
use Rattle.pair_order.specs.Order.{order_answer}
use Rattle.pair_order.specs.Refusals.{pair_numbers}
use Rattle.two_runs.specs.Refusals.{runs_numbers}
use Rattle.two_runs.specs.Runs.{runs_answer, RunsCall}
use Rattle.beginning.specs.Computed.{prefix_of}
use Rattle.races.specs.Races.{shorter, races_answer, RacesCall}
use Rattle.races.specs.Refusals.{races_numbers}
use Rattle.canonical.specs.CanonicalFile.{canonical_answer, CanonicalCall}
use Rattle.canonical.specs.Refusals.{output_numbers}
use Rattle.c_results.specs.declared.accept_result.AcceptResult.{AcceptResult}
use Rattle.c_results.specs.declared.table_result.TableResult.{TableResult}
use Rattle.c_results.specs.declared.order_result.OrderResult.{OrderResult}
use Rattle.c_results.specs.declared.runs_result.RunsResult.{RunsResult}
use Rattle.c_results.specs.declared.races_result.RacesResult.{RacesResult}
use Rattle.c_results.specs.declared.canonical_result.CanonicalResult.{CanonicalResult}
use Rattle.c_results.specs.declared.beginning_result.BeginningResult.{BeginningResult}
use Rattle.c_results.specs.Reading.{accept_read, table_read, order_read, runs_read, races_read, canonical_read, beginning_read}
use Rattle.capi.specs.Functions.{TableFunction, RunsFunction, RacesFunction, CanonicalFunction}
use Rattle.c_results.specs.Results.{accept_result, order_result, beginning_result}
use Rattle.c_results.proofs.ReadBack.{accept-back, table-back, order-back, runs-back, races-back, canonical-back}
use Rattle.c_results.proofs.ReadBack.{beginning-back}
use Rattle.demands.proofs.Demand1.{reading-numbers, table-numbers, order-numbers, runs-numbers, races-numbers}
use Rattle.demands.proofs.Demand1.{canonical-numbers, races-as-count}

-- `mersohki_accept`
pub c-reading : (bytes : List ℕ) {r : AcceptResult} → r ≡ accept_result (accept_answer bytes)
    → accept_read r ≡ accept_answer bytes
c-reading bytes e = rw e (accept-back _ (λ k i. lacks 0 file_numbers tt (reading-numbers bytes 0 k i)))

-- `mersohki_order_table`
pub c-table : {bytes lent now : List ℕ} {r : TableResult} → TableFunction bytes lent r now
    → TableCall bytes lent (table_read r) now
c-table {bytes} {lent} {now} c =
    let call : TableCall bytes lent (table_answer bytes lent) now = record { answers = refl; leaves = c.leaves } in
    rw (c.returns, table-back _ (λ k i. lacks 0 table_numbers tt (table-numbers call 0 k i))) call

-- `mersohki_pair_order`
pub c-order : (bytes : List ℕ) (a b : ℕ) {r : OrderResult} → r ≡ order_result (order_answer bytes a b)
    → order_read r ≡ order_answer bytes a b
c-order bytes a b e = rw e (order-back _ (λ k i. lacks 0 pair_numbers tt (order-numbers bytes a b 0 k i)))

-- `mersohki_two_runs`
pub c-runs : {bytes first second first-now second-now : List ℕ} {a b : ℕ} {r : RunsResult}
    → RunsFunction bytes a b first second r first-now second-now
    → RunsCall bytes a b first second (runs_read r) first-now second-now
c-runs {bytes} {first} {second} {first-now} {second-now} {a} {b} c =
    let call : RunsCall bytes a b first second (runs_answer bytes a b first second) first-now second-now
    = record { answers = refl; leaves_first = c.leaves_first; leaves_second = c.leaves_second } in
    rw (c.returns, runs-back _ (λ k i. lacks 0 runs_numbers tt (runs-numbers call 0 k i))) call

-- `mersohki_races`
pub c-races : {bytes table lower higher table-now lower-now higher-now : List ℕ} {r : RacesResult}
    → RacesFunction bytes table lower higher r table-now lower-now higher-now
    → RacesCall bytes table lower higher (races_read r) table-now lower-now higher-now
c-races {bytes} {table} {lower} {higher} {table-now} {lower-now} {higher-now} c =
    let answer = races_answer bytes (length table) (shorter (length lower) (length higher)) in
    let call : RacesCall bytes table lower higher answer table-now lower-now higher-now
    = record {
      answers = refl;
      leaves_table = c.leaves_table;
      leaves_lower = c.leaves_lower;
      leaves_higher = c.leaves_higher;
    } in
    let count = races-as-count call in
    rw (c.returns, races-back _ (λ k i. lacks 0 races_numbers tt (races-numbers count 0 k i))) call

-- `mersohki_canonical`
pub c-canonical : {bytes lent now : List ℕ} {r : CanonicalResult} → CanonicalFunction bytes lent r now
    → CanonicalCall bytes lent (canonical_read r) now
c-canonical {bytes} {lent} {now} c =
    let call : CanonicalCall bytes lent (canonical_answer bytes lent) now
    = record { answers = refl; leaves = c.leaves; byte_elements = c.byte_elements } in
    rw (c.returns, canonical-back _ (λ k i. lacks 0 output_numbers tt (canonical-numbers call 0 k i))) call

-- `mersohki_beginning`
pub c-beginning : (first second : List ℕ) (chosen other : ℕ) {r : BeginningResult}
    → r ≡ beginning_result (prefix_of first second chosen other) → beginning_read r ≡ prefix_of first second chosen other
c-beginning first second chosen other e = rw e (beginning-back _)
