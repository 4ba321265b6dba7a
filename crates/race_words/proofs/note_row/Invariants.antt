-- `note_row` meets its contract. The invariant: the blocks before this one are done. Assumes nothing.
use Prim.Native.Nat.{◌/◌}
use Rattle.meetings.specs.Meetings.{first_of, last_of}
use Rattle.race_words.proofs.RowNotes.{NotingTo}
use Rattle.race_words.proofs.note_row.Given as goal

abbrev pub invariant-loop-block : goal.invariant-loop-block
invariant-loop-block l =
    NotingTo l.cells l.kept l.w l.slot (first_of l.initial.seen l.slot) (last_of l.initial.seen l.slot) (l.a / 128)
    l.block l.seen
