-- `report` meets its contract: the text of what the race list answers, with that much space.
-- Assumes nothing.
use borrow.Author.Rules.{rules}
use Rattle.report_text.proofs.Reports.{races-asked, asked-room, asked-text, call_by}
use Rattle.report_text.proofs.report.Goals as goal

pub put_answer-requires : goal.put_answer-requires
put_answer-requires c =
    asked-room (races-asked c.races-answer.ensures) (search rules)

pub returns : goal.returns
returns c =
    call_by c.put_answer.ensures (asked-text (races-asked c.races-answer.ensures)) (search rules)
