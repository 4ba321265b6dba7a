-- `too_many` meets its contract: where there are no more pairs of operations of two workers, there are no more races.
-- Assumes nothing.
use native.Mathlib.Omega.{arith}
use Prim.Native.Nat.{◌≤◌}
use borrow.Author.Tests.{le-leb}
use Rattle.trace.specs.Reading.{trace_of}
use Rattle.accept.proofs.Questions.{accepted-workers}
use Rattle.race_model.specs.RaceList.{race_count}
use Rattle.pair_count.proofs.PairCounts.{races-pairs}
use Rattle.races.proofs.too_many.Goals as goal

pub returns-then-pair_count-room : goal.returns-then-pair_count-room
returns-then-pair_count-room c =
    let filled = c.args.filled.now in
    let few = races-pairs _ (accepted-workers filled.holds.accepted) in
    let fits : race_count (trace_of filled.trace.bytes.now) ≤ c.args.room =
    omega (arith, few, c.pair_count.ensures, c.if-pair_count-room.true) in
    (rw (le-leb (race_count (trace_of filled.trace.bytes.now)) c.args.room fits), c.requires)
