-- `put` meets its contract. The invariant: the first i counts are written. Assumes nothing.
use mathlib.Core.List.{List}
use mathlib.Core.Path.{◌≡◌}
use native.Mathlib.Omega.{arith}
use Prim.Native.Nat.{ℕ, ◌+◌, ◌-◌, ◌<◌, ◌≤◌}
use lib.ListN.{length, get_or, set, take, drop, length-drop}
use lib.Seq.{get_or-take, paste}
use borrow.Author.Rules.{rules}
use Rattle.std.proofs.lemmas.List.Edits.{paste_more}
use Rattle.row_writer.proofs.put.Goals as goal

-- one count more
more : (done before : List ℕ) (at n i : ℕ) {to : ℕ} {counts now : List ℕ} → at + n ≤ length done
    → at + n ≤ length before → i < n → to ≡ at + i → counts ≡ take (at + n - at) (drop at done)
    → now ≡ paste before at (drop at done) i
    → set now to (get_or counts i 0) ≡ paste before at (drop at done) (i + 1)
more done before at n i h k l t e p =
    let s = drop at done in
    rw (t, e, p, get_or-take (at + n - at) s i 0 (omega (arith, l)))
    (paste_more before at s i 0 (omega (arith, k, l)) (omega (arith, length-drop at done, h, l)))

pub loop-i-preserved : goal.loop-i-preserved
loop-i-preserved g c =
    let (few, room) = c.requires in
    let full : length c.args.done.now ≡ 16 = search rules in
    more c.args.done.now c.args.part.now c.args.at g.row.N c.loop-i.i (omega (arith, few, full)) room c.loop-i-test.true
    (omega (arith, few, c.loop-i-test.true)) c.copy_from_slice.ensures.after c.loop-i.invariant
