-- The file's questions, 11 of a lent table, and 16 of a lent race list. In order: when none refuses, and when one does;
-- which refusals there are; when 16 refuses.
use mathlib.Core.List.{List}
use mathlib.Core.Logic.{◌↔◌}
use mathlib.Core.Path.{◌≡◌, refl}
use Prim.Native.Nat.{ℕ, ◌<◌}
use Rattle.basics.specs.Membership.{◌∈◌}
use Rattle.basics.proofs.Members.{lacks}
use Rattle.trace.specs.Refusals.{by_earlier, by_this}
use Rattle.trace.specs.Trace.{Trace}
use Rattle.trace.proofs.Outcomes.{ComesOut, asks-at-most, ask-next, pass-as, next-number}
use Rattle.accept.proofs.Questions.{accepted-same}
use Rattle.order_table.specs.Refusals.{AcceptedTable, table_numbers}
use Rattle.order_table.proofs.Questions.{table-comes-out, refused-table-number}
use Rattle.race_model.specs.RaceList.{race_count}
use Rattle.races.specs.Races.{races_reading}
use Rattle.races.specs.Refusals.{AcceptedRaces, RefusedRaces, races_numbers}

-- ---- when none refuses, and when one does

pub races-comes-out : (bytes : List ℕ) (numbers room : ℕ)
    → ComesOut (races_reading bytes numbers room) (AcceptedRaces bytes numbers room) (RefusedRaces bytes numbers room)
unfolding races_reading
races-comes-out bytes numbers room =
    pass-as (ask-next 16 race_count (asks-at-most race_count (λ t. room)) (table-comes-out bytes numbers)) (λ t. (
      λ p. record { filled = p.0; list_holds = p.1 },
      λ p. (p.filled, p.list_holds),
    ))

-- ---- which refusals there are

pub refused-races-number : {bytes : List ℕ} {numbers room q k : ℕ} → RefusedRaces bytes numbers room q k
    → q ∈ races_numbers
refused-races-number r = next-number table_numbers refused-table-number r

-- ---- when 16 refuses

-- where the table is long enough: the list is too short, and the place is the number of races
pub refused-short : {bytes : List ℕ} {numbers room : ℕ} {t : Trace} → AcceptedTable bytes numbers t → (k : ℕ)
    → RefusedRaces bytes numbers room 16 k ↔ ((room < race_count t) × (k ≡ race_count t))
refused-short {bytes} {numbers} {room} {t} f k = (forth, λ p. by_this t f p.0 refl p.1)
  where
    forth : RefusedRaces bytes numbers room 16 k → (room < race_count t) × (k ≡ race_count t)
    forth (by_earlier r) = absurd (lacks 16 table_numbers tt (refused-table-number r))
    forth (by_this u g l n z) =
        let same = accepted-same g.accepted f.accepted in
        (rw same at l, rw same at z)
