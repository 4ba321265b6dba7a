-- `put_listing` meets its contract: the counts, a line for each race, and their number.
-- Assumes nothing.
use native.Mathlib.Omega.{arith}
use Rattle.report_text.specs.ReportText.{listing}
use Rattle.report_text.proofs.Listing.{counts-room, races-room, count_room, all_placed}
use Rattle.report_text.proofs.put_listing.Goals as goal

pub put_pair_line-first-requires : goal.put_pair_line-first-requires
put_pair_line-first-requires c =
    rw c.from-workers.ensures (counts-room c.requires c.args.found.operations c.args.found.workers (omega arith) (omega arith))

pub put_race_lines-last-requires : goal.put_race_lines-last-requires
put_race_lines-last-requires c =
    let a = c.args in
    let first = rw c.from-workers.ensures at c.put_pair_line-first.ensures in
    races-room c.requires a.found.operations a.found.workers (omega arith) (omega arith) first

pub put_count_line-requires : goal.put_count_line-requires
put_count_line-requires c =
    let a = c.args in
    let first = rw c.from-workers.ensures at c.put_pair_line-first.ensures in
    let lines = c.put_race_lines-last.ensures in
    count_room c.requires a.found.operations a.found.workers (omega arith) (omega arith) first
    lines.0 lines.1 (omega arith)

pub returns : goal.returns
unfolding listing
returns c =
    let a = c.args in
    let first = rw c.from-workers.ensures at c.put_pair_line-first.ensures in
    let lines = c.put_race_lines-last.ensures in
    all_placed c.requires a.found.operations a.found.workers (omega arith) (omega arith) first
    lines.0 lines.1 (omega arith) c.put_count_line.ensures
