-- `read_once`: the reader loses the bytes that are read.
use Rattle.std.proofs.Common.{true, arith, length-take-le}
use Rattle.streams.proofs.Moving.{read-behind}
use Rattle.streams.proofs.read_once.Goals as goal

pub returns-clause-bytes : goal.returns-clause-bytes
returns-clause-bytes g c =
    let got = c.read-got in
    read-behind _ _ got.result true c.args.count _ c.step_after.ensures.told _ got.new.buf _
    (length-take-le _ c.args.buffer.now (omega (arith, c.requires))) got.ensures.bound got.ensures.bytes
