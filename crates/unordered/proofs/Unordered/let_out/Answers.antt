-- `let_out` meets its contract. The invariant: k is the low end, and the state is right. Assumes nothing.
use mathlib.Core.Path.{refl}
use native.Mathlib.Omega.{arith}
use borrow.Author.Rules.{rules}
use Rattle.unordered.proofs.Entries.{placed, two-workers}
use Rattle.unordered.proofs.Loops.{out-few, out-ahead, out-more, out-end}
use Rattle.unordered.proofs.Turns.{Sized}
use Rattle.unordered.proofs.Unordered.let_out.Goals as goal

pub bounds-self-k : goal.bounds-self-k
bounds-self-k c =
    let filled = c.args.filled.now in
    let place = placed filled.holds filled.trace.holds c.requires.0 in
    out-few place c.requires.1 c.loop-gone.invariant c.entry-bound.ensures.1 c.loop-gone-test.true

pub let_one-requires : goal.let_one-requires
let_one-requires c =
    let filled = c.args.filled.now in
    let place = placed filled.holds filled.trace.holds c.requires.0 in (
      two-workers place c.requires.1,
      out-few place c.requires.1 c.loop-gone.invariant c.entry-bound.ensures.1 c.loop-gone-test.true,
    )

pub loop-gone-smaller : goal.loop-gone-smaller
loop-gone-smaller c =
    let filled = c.args.filled.now in
    let place = placed filled.holds filled.trace.holds c.requires.0 in
    omega (
      arith,
      out-ahead place c.requires.1 c.loop-gone.invariant c.entry-bound.ensures.1 c.loop-gone-test.true refl,
    )

pub loop-gone-preserved : goal.loop-gone-preserved
loop-gone-preserved c =
    let filled = c.args.filled.now in
    let place = placed filled.holds filled.trace.holds c.requires.0 in
    let sized : Sized c.loop-gone.self = record { sets = search rules; high = search rules; low = search rules } in
    out-more place c.requires.1 c.loop-gone.invariant sized c.entry-bound.ensures.1 c.entry-bound.ensures.0
    c.loop-gone-test.true c.let_one.ensures refl c.rank-gone-in-loop-gone.ensures

pub returns : goal.returns
returns c =
    let filled = c.args.filled.now in
    let place = placed filled.holds filled.trace.holds c.requires.0 in
    out-end place c.requires.1 c.loop-gone.invariant c.entry-bound.ensures.0 c.loop-gone-test.false
