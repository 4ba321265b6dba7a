-- `count_if_room` meets its contract. Assumes nothing.
use Rattle.races.proofs.Answers.{answer-listed, answer-short}
use Rattle.races.proofs.count_if_room.Goals as goal

pub returns-then-races-room : goal.returns-then-races-room
returns-then-races-room c =
    let filled = c.args.filled.now in
    answer-listed filled.holds filled.trace.holds _ c.count_races-races.ensures.0 c.if-races-room.true

pub returns : goal.returns
returns c =
    let filled = c.args.filled.now in
    answer-short filled.holds filled.trace.holds _ c.count_races-races.ensures.0 c.if-races-room.false
