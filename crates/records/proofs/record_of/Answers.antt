-- `record_of` meets its contract: the bytes of the fields, one after the other.
-- Assumes nothing.
use Rattle.records.proofs.Fields.{base-little}
use Rattle.records.proofs.record_of.Goals as goal

pub returns : goal.returns
returns c = λ rank. base-little _ rank c.to_le_bytes-number.ensures c.to_le_bytes-length.ensures
