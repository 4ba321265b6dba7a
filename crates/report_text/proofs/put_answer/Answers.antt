-- `put_answer` meets its contract: a listing, or the line of a refusal.
-- Assumes nothing.
use native.Mathlib.Omega.{arith}
use borrow.Author.Rules.{rules}
use Rattle.report_text.specs.ReportText.{refusal}
use Rattle.report_text.proofs.Lines.{refusal-line-length}
use Rattle.report_text.proofs.put_answer.Goals as goal

pub put_listing-requires : goal.put_listing-requires
put_listing-requires c =
    rw c.in-Ok.is at c.requires

pub returns-in-Ok : goal.returns-in-Ok
returns-in-Ok c =
    rw c.in-Ok.is c.put_listing.ensures

pub put_pair_line-requires : goal.put_pair_line-requires
unfolding refusal
put_pair_line-requires c =
    let r = c.in-Err.refusal in
    let short = refusal-line-length r.number r.place (search rules) (search rules) in
    rw c.from-number.ensures (omega (arith, short, c.requires.room))

pub returns-in-Err : goal.returns-in-Err
unfolding refusal
returns-in-Err c =
    rw c.in-Err.is (rw c.from-number.ensures at c.put_pair_line.ensures)
