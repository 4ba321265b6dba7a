-- `order_table` meets its contract: what reading the file answers, and question 11 where it refuses nothing.
-- Assumes nothing.
use mathlib.Core.Path.{sym}
use Rattle.accept.proofs.Accepting.{answer-unread}
use Rattle.accept.proofs.Answers.{answer-accepts}
use Rattle.order_table.proofs.Answers.{call-refused}
use Rattle.order_table.proofs.order_table.Goals as goal

pub returns-in-Err : goal.returns-in-Err
returns-in-Err c = call-refused _ _ (sym (answer-unread _ c.in-Err.ensures.opens))

pub returns-in-Err-accept_if_complete : goal.returns-in-Err-accept_if_complete
returns-in-Err-accept_if_complete c =
    call-refused _ _ (sym (rw c.in-Ok.ensures.opens at c.in-Err-accept_if_complete.ensures))

pub fill_if_room-requires : goal.fill_if_room-requires
fill_if_room-requires c = (answer-accepts _ _ _ (sym c.in-Ok-accept_if_complete.ensures)).0
