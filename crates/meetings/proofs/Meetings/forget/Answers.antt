-- `forget` meets its contract. Assumes nothing.
use lib.ListN.{get_or-replicate}
use Rattle.meetings.proofs.Meetings.forget.Goals as goal

pub returns : goal.returns
returns c = record { none = λ k l. get_or-replicate 32 k 0 0 l }
