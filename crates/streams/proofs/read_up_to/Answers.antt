-- `read_up_to`: what one more read gave stands behind what was read before.
use Rattle.streams.proofs.Moving.{read-on}
use Rattle.streams.proofs.read_up_to.Goals as goal

pub returns-in-Failed-clause-bytes : goal.returns-in-Failed-clause-bytes
returns-in-Failed-clause-bytes g c =
    let e = c.in-Failed.ensures in
    read-on _ _ _ _ _ e.grows _ _ e.behind.kept c.loop-calls.invariant.1 e.bytes

pub loop-calls-preserved : goal.loop-calls-preserved
loop-calls-preserved g c =
    let e = c.in-Again.ensures in
    (e.behind.within, read-on _ _ _ _ _ e.grows _ _ e.behind.kept c.loop-calls.invariant.1 e.bytes)
