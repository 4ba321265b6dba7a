-- `write_once`: the writer gains the bytes that are written.
use Rattle.std.proofs.Common.{false}
use Rattle.std.proofs.lemmas.List.{take_rest}
use Rattle.streams.proofs.Moving.{write-behind}
use Rattle.streams.proofs.write_once.Goals as goal

pub returns-clause-bytes : goal.returns-clause-bytes
returns-clause-bytes g c =
    write-behind _ _ c.write-got.result false c.args.count _ c.step_after.ensures.told _ c.args.bytes.now
    (take_rest c.args.bytes.now c.args.count) c.write-got.ensures.bytes
