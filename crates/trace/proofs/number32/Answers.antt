-- `number32` meets its contract. Assumes nothing.
use mathlib.Core.Path.{◌≡◌}
use native.Mathlib.Omega.{arith}
use Prim.Native.Nat.{◌+◌}
use Rattle.trace.proofs.LittleEndian.{value-two, value-four}
use Rattle.trace.proofs.number32.Goals as goal

pub returns : goal.returns
returns c =
    let at = c.args.at in
    let file = c.args.file.now in
    let three : at + 2 + 1 ≡ at + 3 = omega arith in
    let high = rw three at (value-two (at + 2) file) in
    omega (arith, c.from_le_bytes.ensures, value-four at file, value-two at file, high)
