-- What the call answers and leaves in the lent output. In order: by the outcome of the questions; as the code comes to
-- it; what the answer says.
use mathlib.Core.List.{List, ◌++◌}
use mathlib.Core.Logic.{◌↔◌}
use mathlib.Core.Path.{◌≡◌, refl, ◌∙◌}
use native.Mathlib.Omega.{arith}
use Prim.Native.Nat.{ℕ, ◌<◌, ◌≤◌}
use lib.ListN.{length, get_or, drop}
use mir.Syntax.{w8}
use mir.Val.{Fits}
use Rattle.trace.specs.Form.{base, start}
use Rattle.trace.specs.Premises.{HoldsTrace}
use Rattle.trace.specs.Refusals.{by_earlier, by_this}
use Rattle.trace.specs.Reading.{Reading, refused, trace_of}
use Rattle.trace.specs.Writing.{Bytes}
use Rattle.trace.proofs.Answers.{file-size}
use Rattle.trace.proofs.Outcomes.{tells-refusals, outcome-refused}
use Rattle.trace.specs.Answer.{Refused}
use Rattle.accept.specs.Acceptance.{AcceptedTrace, accept_answer}
use Rattle.accept.proofs.Answers.{refused-answer}
use Rattle.lent.specs.Left.{left_by}
use Rattle.canonical.specs.CanonicalFile.{Written, canonical_bytes, canonical_reading, answer_of, canonical_answer}
use Rattle.canonical.specs.CanonicalFile.{output_after, CanonicalCall}
use Rattle.canonical.specs.Refusals.{AcceptedOutput, RefusedOutput}
use Rattle.canonical.proofs.Questions.{output-comes-out}
use Rattle.canonical.proofs.ReadBack.{canonical-file-length}

-- ---- by the outcome of the questions

pub call_by : {bytes : List ℕ} → Bytes bytes → (lent : List ℕ) {r : Reading} → canonical_reading bytes (length lent) ≡ r
    → CanonicalCall bytes lent (answer_of r) (left_by (canonical_bytes base) r lent)
unfolding canonical_answer output_after
call_by b lent e = record { answers = rw e; leaves = rw e; byte_elements = b }

by-no : {bytes : List ℕ} → Bytes bytes → (lent : List ℕ) {q k : ℕ} → RefusedOutput bytes (length lent) q k
    → CanonicalCall bytes lent (Refused q k) lent
by-no {bytes} b lent {q} {k} r = call_by b lent (((output-comes-out bytes (length lent)).refuses q k).1 r)

-- ---- as the code comes to it

-- each element of a `&[u8]` is known to be a byte
pub bytes-known : {bytes : List ℕ} → ((i : ℕ) → Fits w8 (get_or bytes i 0)) → Bytes bytes
bytes-known f = record { byte = λ i. omega (arith, f i) }

module _ {bytes : List ℕ} (b : Bytes bytes) {p n : ℕ} (a : AcceptedTrace bytes (trace_of bytes) × HoldsTrace bytes p n)
    (lent : List ℕ) where
  -- the part of the output comes back as the tidy file
  pub call-written : start base n ≤ length lent → {m : ℕ} {part : List ℕ} → m ≡ start base n
      → part ≡ canonical_bytes base (trace_of bytes)
      → CanonicalCall bytes lent (Written (start base n)) (part ++ drop m lent)
  call-written l e i =
      let room : AcceptedOutput bytes (length lent) (trace_of bytes)
      = record { accepted = a.0; output_holds = rw (file-size a.1) l } in
      let passed = ((output-comes-out bytes (length lent)).passes (trace_of bytes)).1 room in
      let size = canonical-file-length a.0 ∙ file-size a.1 in
      rw (e, i, ← size) (call_by b lent passed)

  pub call-short : length lent < start base n → CanonicalCall bytes lent (Refused 17 0) lent
  call-short l = by-no b lent (by_this (trace_of bytes) a.0 (rw (file-size a.1) l) refl refl)

pub call-refused : {bytes : List ℕ} → Bytes bytes → (lent : List ℕ) {q k : ℕ} → accept_answer bytes ≡ Refused q k
    → CanonicalCall bytes lent (Refused q k) lent
call-refused {bytes} b lent {q} {k} i = by-no b lent (by_earlier ((refused-answer bytes q k).0 i))

-- ---- what the answer says

module _ (bytes lent : List ℕ) where
  pub output-refused : (q k : ℕ)
      → (canonical_answer bytes lent ≡ Refused q k) ↔ (canonical_reading bytes (length lent) ≡ refused q k)
  unfolding canonical_answer
  output-refused q k = outcome-refused answer_of (tells-refusals _) (canonical_reading bytes (length lent)) q k
