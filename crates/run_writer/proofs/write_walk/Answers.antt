-- `write_walk` meets its contract. The invariant: what the walk has added is written. Assumes nothing.
use native.Mathlib.Omega.{arith}
use Prim.Native.Nat.{◌+◌, ◌-◌}
use Rattle.run_writer.proofs.Turns.{written-turn, writing-on, writing-inside, writing-room, writing-turn, copied}
use Rattle.run_writer.proofs.write_walk.Goals as goal

pub overflow_sub-more : goal.overflow_sub-more
overflow_sub-more c =
    let on = writing-on c.loop-ready.invariant.0 c.lowest-q.ensures c.turn-ready.ensures in
    omega (arith, on, c.from.ensures, c.from-before.ensures)

pub overflow_add-at : goal.overflow_add-at
overflow_add-at c =
    let room = writing-room c.loop-ready.invariant.0 c.lowest-q.ensures c.turn-ready.ensures in
    record { fits = omega (arith, room, c.from.ensures, c.from-before.ensures) }

pub offset_bounds-run-at : goal.offset_bounds-run-at
offset_bounds-run-at c =
    let room = writing-room c.loop-ready.invariant.0 c.lowest-q.ensures c.turn-ready.ensures in
    record { fits = omega (arith, room) }

pub slice_bounds-copy-end-in-loop-ready : goal.slice_bounds-copy-end-in-loop-ready
slice_bounds-copy-end-in-loop-ready c =
    let room = writing-room c.loop-ready.invariant.0 c.lowest-q.ensures c.turn-ready.ensures in
    omega (arith, room, c.loop-ready.invariant.0.written.room, c.from.ensures, c.from-before.ensures)

pub slice_bounds-copy-end : goal.slice_bounds-copy-end
slice_bounds-copy-end c =
    let inside = writing-inside c.loop-ready.invariant.0 c.lowest-q.ensures c.turn-ready.ensures in
    let on = writing-on c.loop-ready.invariant.0 c.lowest-q.ensures c.turn-ready.ensures in
    omega (arith, inside, on, c.from-in-loop-ready.ensures, c.from.ensures, c.from-before.ensures)

pub loop-ready-preserved : goal.loop-ready-preserved
loop-ready-preserved c =
    let (w, on) = c.loop-ready.invariant in
    let first = c.lowest-q.ensures in
    let u = c.turn-ready.ensures in
    let start = c.from-in-loop-ready.ensures in
    let before = c.from-before.ensures in
    let after = c.from.ensures in
    let on' = writing-on w first u in
    let before' = c.from-before.result in
    let more = c.from.result - before' in
    let from = c.from-in-loop-ready.result + before' in
    let same = copied c.args.index.now.order c.loop-ready.run from c.loop-ready.at more
    (omega (arith, writing-inside w first u, on', start, before, after)) c.copy.ensures in
    rw (same, start, before, after)
    (writing-turn w first u, λ t n a base few x y. written-turn x few (on t n a base few x y) first u)

pub returns : goal.returns
returns c = λ t n a base few x w. rw (← c.loop-ready-test.false) (c.loop-ready.invariant.1 t n a base few x w)
