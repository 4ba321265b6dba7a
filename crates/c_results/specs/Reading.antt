-- How a C caller reads a struct of the C interface: the answer that it stands for.
-- Follows: include/mersohki.h.
-- Differs: nowhere. That reading the struct of a call's answer gives that answer back is shown in proofs/ReadBack, for
-- every answer whose refusal number is not 0.
use Rattle.std.specs.Prelude.{ℕ, zero, suc, ℤ}
use Rattle.std.specs.Prelude.{Result}
use Rattle.trace.specs.declared.Counts.{Counts}
use Rattle.races.specs.declared.answer.Races.{Races}
use Rattle.trace.specs.declared.Refusal.{Refusal}
use Rattle.trace.specs.Answer.{Refused}
use Rattle.accept.specs.Acceptance.{Accepted}
use Rattle.order_table.specs.Table.{Filled}
use Rattle.pair_order.specs.Order.{Ordered}
use Rattle.two_runs.specs.Runs.{Runs}
use Rattle.races.specs.Races.{Listed}
use Rattle.canonical.specs.CanonicalFile.{Written}
use Rattle.beginning.specs.declared.Prefix.{Prefix}
use Rattle.beginning.specs.declared.Prefix.TheVariants.{OfFirst, OfSecond}
use Rattle.c_results.specs.declared.accept_result.AcceptResult.{AcceptResult}
use Rattle.c_results.specs.declared.table_result.TableResult.{TableResult}
use Rattle.c_results.specs.declared.order_result.OrderResult.{OrderResult}
use Rattle.c_results.specs.declared.runs_result.RunsResult.{RunsResult}
use Rattle.c_results.specs.declared.races_result.RacesResult.{RacesResult}
use Rattle.c_results.specs.declared.canonical_result.CanonicalResult.{CanonicalResult}
use Rattle.c_results.specs.declared.beginning_result.BeginningResult.{BeginningResult}

-- x where the number is 0, and y where it is any other
abbrev pub if_zero : {A : Type 0} → ℕ → A → A → A
if_zero zero x y = x
if_zero (suc q) x y = y

-- number 0 means that the call does not refuse; then the values are its answer
abbrev pub accept_read : AcceptResult → Result Counts Refusal
accept_read r = if_zero r.number (Accepted r.workers r.operations) (Refused r.number r.place)

abbrev pub table_read : TableResult → Result Counts Refusal
table_read r = if_zero r.number (Filled r.workers r.operations) (Refused r.number r.place)

abbrev pub order_read : OrderResult → Result ℤ Refusal
order_read r = if_zero r.number (Ordered r.sign) (Refused r.number r.place)

abbrev pub runs_read : RunsResult → Result ℕ Refusal
runs_read r = if_zero r.number (Runs r.operations) (Refused r.number r.place)

abbrev pub races_read : RacesResult → Result Races Refusal
races_read r =
    if_zero r.number (Listed r.workers r.operations r.races) (Refused r.number r.place)

abbrev pub canonical_read : CanonicalResult → Result ℕ Refusal
canonical_read r = if_zero r.number (Written r.size) (Refused r.number r.place)

-- list 0 is the first
abbrev pub beginning_read : BeginningResult → Prefix
beginning_read r = if_zero r.list (OfFirst r.length) (OfSecond r.length)
