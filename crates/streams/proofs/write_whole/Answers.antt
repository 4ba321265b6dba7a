-- `write_whole`: what one more write took stands behind what was written before.
use Rattle.streams.proofs.Moving.{write-on}
use Rattle.streams.proofs.write_whole.Goals as goal

pub returns-in-Failed-clause-part : goal.returns-in-Failed-clause-part
returns-in-Failed-clause-part g c =
    let e = c.in-Failed.ensures in
    (c.in-Failed.field-0, write-on _ _ _ _ _ e.grows _ c.loop-calls.invariant.1 e.bytes)

pub loop-calls-preserved : goal.loop-calls-preserved
loop-calls-preserved g c =
    let e = c.in-Again.ensures in
    (e.within, write-on _ _ _ _ _ e.grows _ c.loop-calls.invariant.1 e.bytes)
