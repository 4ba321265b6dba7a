-- The file's questions, and 17 of a lent output. In order: when none refuses, and when one does; which refusals there
-- are.
use mathlib.Core.List.{List}
use Prim.Native.Nat.{ℕ}
use lib.ListN.{length}
use Rattle.basics.specs.Membership.{◌∈◌}
use Rattle.trace.specs.Refusals.{no_place, file_numbers}
use Rattle.trace.proofs.Outcomes.{ComesOut, asks-at-most, ask-next, pass-as, next-number}
use Rattle.accept.proofs.Questions.{comes-out, refused-number}
use Rattle.canonical.specs.CanonicalFile.{canonical_reading}
use Rattle.canonical.specs.Refusals.{AcceptedOutput, RefusedOutput, output_numbers}

-- ---- when none refuses, and when one does

pub output-comes-out : (bytes : List ℕ) (room : ℕ)
    → ComesOut (canonical_reading bytes room) (AcceptedOutput bytes room) (RefusedOutput bytes room)
unfolding canonical_reading
output-comes-out bytes room =
    pass-as (ask-next 17 no_place (asks-at-most (λ t. length bytes) (λ t. room)) (comes-out bytes)) (λ t. (
      λ p. record { accepted = p.0; output_holds = p.1 },
      λ p. (p.accepted, p.output_holds),
    ))

-- ---- which refusals there are

pub refused-output-number : {bytes : List ℕ} {room q k : ℕ} → RefusedOutput bytes room q k → q ∈ output_numbers
refused-output-number r = next-number file_numbers refused-number r
