-- `word` meets its contract. Assumes nothing.
use Rattle.race_words.proofs.RaceWords.{race-word}
use Rattle.race_words.proofs.Row.word.Goals as goal

pub returns : goal.returns
returns c =
    let met = c.met_word-met.ensures in
    race-word c.args.self.now.ready c.requires.0 c.requires.1 (rw met at c.conflict_word-conflicts.ensures)
    c.common-free.ensures c.after.ensures c.common.ensures
