-- What the C functions that write promise: the struct that they return, and what is in lent memory afterwards, by the
-- definitions of the calls' own promises.
-- Follows: document 01, "The questions".
-- Differs: nowhere.
use Rattle.std.specs.Prelude.{List, ◌≡◌, ℕ, length}
use Rattle.trace.specs.Writing.{Bytes}
use Rattle.order_table.specs.Table.{table_answer, table_after}
use Rattle.two_runs.specs.Runs.{runs_answer, first_after, second_after}
use Rattle.races.specs.Races.{shorter, races_answer, lower_after, higher_after}
use Rattle.canonical.specs.CanonicalFile.{canonical_answer, output_after}
use Rattle.c_results.specs.declared.table_result.TableResult.{TableResult}
use Rattle.c_results.specs.declared.runs_result.RunsResult.{RunsResult}
use Rattle.c_results.specs.declared.races_result.RacesResult.{RacesResult}
use Rattle.c_results.specs.declared.canonical_result.CanonicalResult.{CanonicalResult}
use Rattle.c_results.specs.Results.{table_result, runs_result, races_result, canonical_result}

pub record TableFunction (bytes lent : List ℕ) (r : TableResult) (now : List ℕ) : Type 0 where
  pub returns : r ≡ table_result (table_answer bytes lent)
  pub leaves : now ≡ table_after bytes lent

pub record RunsFunction (bytes : List ℕ) (a b : ℕ) (first second : List ℕ) (r : RunsResult)
    (first-now second-now : List ℕ) : Type 0 where
  pub returns : r ≡ runs_result (runs_answer bytes a b first second)
  pub leaves_first : first-now ≡ first_after bytes a b first second
  pub leaves_second : second-now ≡ second_after bytes a b first second

pub record RacesFunction (bytes table lower higher : List ℕ) (r : RacesResult)
    (table-now lower-now higher-now : List ℕ) : Type 0 where
  pub returns : r ≡ races_result (races_answer bytes (length table) (shorter (length lower) (length higher)))
  pub leaves_table : table-now ≡ table_after bytes table
  pub leaves_lower : lower-now ≡ lower_after bytes table lower higher
  pub leaves_higher : higher-now ≡ higher_after bytes table lower higher

-- and that the file's elements are bytes, as those of every `&[u8]` are
pub record CanonicalFunction (bytes lent : List ℕ) (r : CanonicalResult) (now : List ℕ) : Type 0 where
  pub returns : r ≡ canonical_result (canonical_answer bytes lent)
  pub leaves : now ≡ output_after bytes lent
  pub byte_elements : Bytes bytes
