-- `take_in` meets its contract. The invariant: k is the high end, and the state is right. Assumes nothing.
use mathlib.Core.Path.{refl}
use native.Mathlib.Omega.{arith}
use borrow.Author.Rules.{rules}
use Rattle.unordered.proofs.Entries.{placed, two-workers}
use Rattle.unordered.proofs.Loops.{in-few, in-ahead, in-more, in_end}
use Rattle.unordered.proofs.Turns.{Sized}
use Rattle.unordered.proofs.Unordered.take_in.Goals as goal

pub bounds-self-k : goal.bounds-self-k
bounds-self-k c =
    let filled = c.args.filled.now in
    let place = placed filled.holds filled.trace.holds c.requires.0 in
    in-few place c.requires.1 c.loop-due.invariant c.entry-bound.ensures.1 c.loop-due-test.true

pub take_one-requires : goal.take_one-requires
take_one-requires c =
    let filled = c.args.filled.now in
    let place = placed filled.holds filled.trace.holds c.requires.0 in (
      two-workers place c.requires.1,
      in-few place c.requires.1 c.loop-due.invariant c.entry-bound.ensures.1 c.loop-due-test.true,
    )

pub loop-due-smaller : goal.loop-due-smaller
loop-due-smaller c =
    let filled = c.args.filled.now in
    let place = placed filled.holds filled.trace.holds c.requires.0 in
    omega (
      arith,
      in-ahead place c.requires.1 c.loop-due.invariant c.entry-bound.ensures.1 c.loop-due-test.true refl,
    )

pub loop-due-preserved : goal.loop-due-preserved
loop-due-preserved c =
    let filled = c.args.filled.now in
    let place = placed filled.holds filled.trace.holds c.requires.0 in
    let sized : Sized c.loop-due.self = record { sets = search rules; high = search rules; low = search rules } in
    in-more place c.requires.1 c.loop-due.invariant sized c.entry-bound.ensures.1 c.entry-bound.ensures.0
    c.loop-due-test.true c.take_one.ensures refl c.rank-due-in-loop-due.ensures

pub returns : goal.returns
returns c =
    let filled = c.args.filled.now in
    let place = placed filled.holds filled.trace.holds c.requires.0 in
    in_end place c.requires.1 c.loop-due.invariant c.entry-bound.ensures.0 c.loop-due-test.false
