-- `fill_worker` meets its contract. The invariant: the rows of the operations with fewer than `from` earlier ones
-- are written, and the walk is kept for that with `from`. Assumes nothing.
use mathlib.Core.Path.{refl}
use native.Mathlib.Omega.{arith}
use Prim.Native.Nat.{ℕ}
use lib.Seq.{set-set}
use borrow.Author.Rules.{rules}
use Rattle.index.proofs.Lookups.{holds-places, part-ordered}
use Rattle.table_rows.proofs.Filling.{kept-begun}
use Rattle.table_rows.proofs.Keeping.{known, to-upto, room-along, kept-on, filling-end}
use Rattle.table_rows.proofs.Stretch.{along-own}
use Rattle.table_rows.proofs.fill_worker.Goals as goal

pub begin-requires : goal.begin-requires
begin-requires c =
    let x = c.args.x.now in
    part-ordered (holds-places x.trace.holds x.handed.indexed)

pub loop-from-init : goal.loop-from-init
loop-from-init c =
    let x = known c.args.x.now.trace.holds c.args.x.now.handed c.requires.0 in
    let (begun, ends, none) = c.begin.ensures in
    rw c.from-own.ensures
    (kept-begun x c.requires.1 begun
    (record { undone = none.undone; unposted = search rules; unawaited = none.unawaited })
    (rw c.from-p.ensures at c.below.ensures) c.without-ready.ensures)

pub put_rows-requires : goal.put_rows-requires
put_rows-requires c =
    let x = known c.args.x.now.trace.holds c.args.x.now.handed c.requires.0 in
    let (begun, ends, none) = c.begin.ensures in
    let last = c.from-last.ensures in
    let l = rw last at c.loop-from-test.true in
    let (m, w) = rw ends at c.exhaust.ensures in
    let s = rw (last, c.from-end.ensures) at (c.pass_own-s.ensures.0 c.args.q) in
    rw c.from-p.ensures (room-along x c.requires.1 begun (c.loop-from.invariant.kept l) l w s refl)

pub loop-from-smaller : goal.loop-from-smaller
loop-from-smaller c =
    let x = known c.args.x.now.trace.holds c.args.x.now.handed c.requires.0 in
    let (begun, ends, none) = c.begin.ensures in
    let last = c.from-last.ensures in
    let l = rw last at c.loop-from-test.true in
    let (m, w) = rw ends at c.exhaust.ensures in
    let s = rw (last, c.from-end.ensures) at (c.pass_own-s.ensures.0 c.args.q) in
    omega (arith, (to-upto x c.requires.1 begun (c.loop-from.invariant.kept l) l w s).0, c.loop-from-test.true)

pub loop-from-preserved : goal.loop-from-preserved
loop-from-preserved c =
    let x = known c.args.x.now.trace.holds c.args.x.now.handed c.requires.0 in
    let (begun, ends, none) = c.begin.ensures in
    let last = c.from-last.ensures in
    let l = rw last at c.loop-from-test.true in
    let (m, w) = rw ends at c.exhaust.ensures in
    let s = rw (last, c.from-end.ensures) at (c.pass_own-s.ensures.0 c.args.q) in
    let (passes, nexts, done, own) = c.pass_own-s.ensures in
    let rows = along-own _ m (rw (c.from-p.ensures, done) at c.put_rows.ensures) in
    let next = kept-on x c.requires.1 begun (c.loop-from.invariant.kept l) l w s rows in
    rw (nexts, done) (rw (set-set {A = ℕ} _ _ m _) at next)

pub returns : goal.returns
returns c =
    let x = known c.args.x.now.trace.holds c.args.x.now.handed c.requires.0 in
    let end = rw c.from-last.ensures at c.loop-from-test.false in
    filling-end x c.requires.1 c.begin.ensures.0 c.loop-from.invariant end
