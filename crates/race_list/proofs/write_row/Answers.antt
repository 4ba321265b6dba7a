-- `write_row` meets its contract. The invariant: the first i races are written. Assumes nothing.
use mathlib.Core.Path.{◌≡◌}
use native.Mathlib.Omega.{arith}
use lib.ListN.{length}
use borrow.Author.Rules.{rules}
use Rattle.race_list.proofs.RecordWriting.{rowed-next}
use Rattle.race_list.proofs.write_row.Goals as goal

pub loop-i-preserved : goal.loop-i-preserved
loop-i-preserved c =
    let long : length c.args.row.now ≡ 1024 = search rules in
    rw c.loop-i.invariant
    (rowed-next c.args.list.now c.args.at c.args.lower c.args.row.now c.loop-i.i (omega arith) (omega (arith, long)))
