-- What is in the lent output after the call. In order: after any call, the length; after success, the tidy file, and
-- what lies behind it; the tidy files of two traces.
use mathlib.Core.List.{List}
use mathlib.Core.Path.{◌≡◌, ap}
use native.Mathlib.Omega.{arith}
use Prim.Native.Nat.{ℕ, ◌≤◌}
use lib.ListN.{length, get_or, take}
use lib.Seq.{take_at}
use Rattle.trace.specs.Form.{Form, base}
use Rattle.trace.specs.Trace.{Trace}
use Rattle.trace.specs.Writing.{bytes_of}
use Rattle.lent.specs.Written.{written_over}
use Rattle.lent.proofs.Left.{left-length}
use Rattle.lent.proofs.Writing.{written-past}
use Rattle.canonical.specs.CanonicalFile.{SameWorkers, canonical_bytes, canonical_reading}
use Rattle.canonical.specs.CanonicalFile.{output_after}
use Rattle.canonical.specs.Refusals.{AcceptedOutput}
use Rattle.canonical.proofs.ByWorker.{canonical-same}
use Rattle.canonical.proofs.Questions.{output-comes-out}
use Rattle.canonical.proofs.ReadBack.{canonical-file-length}

-- ---- after any call

pub after-length : (bytes lent : List ℕ) → length (output_after bytes lent) ≡ length lent
unfolding output_after
after-length bytes lent =
    left-length (canonical_bytes base) (canonical_reading bytes (length lent)) (output-comes-out bytes (length lent)) lent
    (λ t f. omega (arith, canonical-file-length f.accepted, f.output_holds))

-- ---- after success

module _ {bytes : List ℕ} (lent : List ℕ) {t : Trace} (f : AcceptedOutput bytes (length lent) t) where
  after-written : output_after bytes lent ≡ written_over (canonical_bytes base t) lent
  unfolding output_after
  after-written = rw (((output-comes-out bytes (length lent)).passes t).1 f)

  -- as many bytes as the file has are the tidy file
  pub after-canonical : take (length bytes) (output_after bytes lent) ≡ canonical_bytes base t
  after-canonical =
      rw after-written (take_at (canonical_bytes base t) _ (length bytes) (canonical-file-length f.accepted))

  pub after-past : (i : ℕ) → length bytes ≤ i → get_or (output_after bytes lent) i 0 ≡ get_or lent i 0
  after-past i l =
      rw after-written
      (written-past (canonical_bytes base t) lent 0 i (omega (arith, canonical-file-length f.accepted)))

-- ---- two traces

-- those of the same workers' operations have the same tidy file, in any form
pub same_bytes : (f : Form) {t u : Trace} → SameWorkers t u → canonical_bytes f t ≡ canonical_bytes f u
unfolding canonical_bytes
same_bytes f s = ap (bytes_of f) (canonical-same s)
