-- `lent_file` meets its contract: what is known of a slice that is lent on. Assumes nothing.
use Rattle.canonical.proofs.Answers.{bytes-known}
use Rattle.demands.proofs.calls.lent_file.Goals as goal

pub returns : goal.returns
returns c = bytes-known c.shared_slice_known-1.given
