-- The file's questions, and 11 of a lent table. In order: when none refuses, and when one does; which refusals there
-- are.
use mathlib.Core.List.{List}
use Prim.Native.Nat.{ℕ, ◌*◌}
use Rattle.basics.specs.Membership.{◌∈◌}
use Rattle.trace.specs.Refusals.{no_place, file_numbers}
use Rattle.trace.specs.Trace.{size}
use Rattle.trace.proofs.Outcomes.{ComesOut, asks-at-most, ask-next, pass-as, next-number}
use Rattle.accept.proofs.Questions.{comes-out, refused-number}
use Rattle.order_table.specs.Refusals.{AcceptedTable, RefusedTable, table_numbers}
use Rattle.order_table.specs.Table.{table_reading}

-- ---- when none refuses, and when one does

pub table-comes-out : (bytes : List ℕ) (room : ℕ)
    → ComesOut (table_reading bytes room) (AcceptedTable bytes room) (RefusedTable bytes room)
unfolding table_reading
table-comes-out bytes room =
    pass-as (ask-next 11 no_place (asks-at-most (λ t. size t * t.workers) (λ t. room)) (comes-out bytes)) (λ t. (
      λ p. record { accepted = p.0; table_holds = p.1 },
      λ p. (p.accepted, p.table_holds),
    ))

-- ---- which refusals there are

pub refused-table-number : {bytes : List ℕ} {room q k : ℕ} → RefusedTable bytes room q k → q ∈ table_numbers
refused-table-number r = next-number file_numbers refused-number r
