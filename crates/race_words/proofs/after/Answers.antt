-- `after` meets its contract. Assumes nothing.
use native.Mathlib.Omega.{arith}
use Rattle.race_words.proofs.RaceWords.{after-all}
use Rattle.race_words.proofs.after.Goals as goal

pub returns-then-a-v : goal.returns-then-a-v
returns-then-a-v c = after-all (omega (arith, c.if-a-v.true))
