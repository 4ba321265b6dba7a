-- `race_list` meets its contract: all races are written where there is room, none otherwise. Assumes nothing.
use native.Mathlib.Omega.{arith}
use Rattle.std.proofs.lemmas.Result.{err_from_is_err_and}
use Rattle.table_entries.proofs.TableEntries.{table-reads}
use Rattle.races.proofs.Answers.{all-counted}
use Rattle.race_list.proofs.RecordWriting.{call-written, call-refused}
use Rattle.race_list.proofs.race_list.Goals as goal

pub returns-in_err-races : goal.returns-in_err-races
returns-in_err-races c =
    let p = err_from_is_err_and c.from_residual.result c.from_residual.ensures.1 in
    rw (p.1, p.2) (call-refused c.args.list.now c.in_err-races.ensures)

pub of-trace-requires : goal.of-trace-requires
of-trace-requires c = table-reads (all-counted c.in_ok-races.ensures).holds

pub invariant_of-write_races : goal.invariant_of-write_races
invariant_of-write_races c = rw c.of-trace.ensures (record { holds = (all-counted c.in_ok-races.ensures).holds })

pub write_races-requires : goal.write_races-requires
write_races-requires c =
    let counted = all-counted c.in_ok-races.ensures in
    (rw c.of-trace.ensures counted.counts, omega (arith, counted.counts, counted.fits))

pub returns : goal.returns
returns c =
    call-written c.args.list.now c.in_ok-races.ensures (rw c.of-trace.ensures at c.write_races.ensures)
