-- "Accepted", which the customer's sentences speak of, said plainly: for any bytes, what it is to be accepted with a
-- trace t. Each element of a file that a call is lent is a byte (`Bytes`): `lent_file`, of src/, ensures it.
use mathlib.Core.List.{List}
use mathlib.Core.Logic.{◌↔◌}
use mathlib.Core.Path.{◌≡◌}
use Prim.Native.Nat.{ℕ}
use Rattle.trace.specs.Form.{base}
use Rattle.trace.specs.Reading.{reads, file_reading}
use Rattle.trace.specs.Trace.{Trace, size}
use Rattle.trace.specs.Writing.{bytes_of, WellFormed, Bytes}
use Rattle.trace.proofs.Answers.{file-means}
use Rattle.trace.proofs.WrittenBytes.{trace-file}
use Rattle.model.specs.Runs.{CompleteRunOf}
use Rattle.accept.specs.Acceptance.{AcceptedTrace, accept_answer}
use Rattle.accept.specs.Acceptance.{Accepted}
use Rattle.accept.proofs.Answers.{accepted-answer}
use Rattle.accept.proofs.Questions.{accepted-reads, accepted-complete, accepted-same}

module _ {bytes : List ℕ} (b : Bytes bytes) (t : Trace) where
  -- A file reads as t, refused by no question of its header and its records, exactly if it is the file of t, its header
  -- and its records, and t is well-formed: of 1 to 16 workers and at most 1,024 operations, each as the questions want
  -- it, with a number of four bytes and a length of two.
  pub reads-means : (file_reading bytes ≡ reads t) ↔ ((bytes ≡ bytes_of base t) × WellFormed t)
  reads-means = file-means bytes t b

  -- It is accepted with t exactly if, besides, t has a complete run:
  pub accepted-means :
      AcceptedTrace bytes t ↔ ((bytes ≡ bytes_of base t) × WellFormed t × ((r : List ℕ) × CompleteRunOf t r))
  accepted-means = (forth, back)
    where
      forth : AcceptedTrace bytes t → (bytes ≡ bytes_of base t) × WellFormed t × ((r : List ℕ) × CompleteRunOf t r)
      forth a =
          let e = accepted-reads a in
          let (i, w) = reads-means.0 e in
          (i, w, (accepted-complete bytes t e).0 a)

      back : (bytes ≡ bytes_of base t) × WellFormed t × ((r : List ℕ) × CompleteRunOf t r) → AcceptedTrace bytes t
      back (i, w, c) = (accepted-complete bytes t (reads-means.1 (i, w))).1 c

-- and exactly if it reads as t and the answer is t's counts:
pub accepted-answers : (bytes : List ℕ) (t : Trace)
    → AcceptedTrace bytes t ↔ ((file_reading bytes ≡ reads t) × (accept_answer bytes ≡ Accepted t.workers (size t)))
accepted-answers bytes t = accepted-answer bytes t

-- A file is accepted with one trace, and every well-formed trace that has a complete run has an accepted file:
pub accepted-once : {bytes : List ℕ} {t u : Trace} → AcceptedTrace bytes t → AcceptedTrace bytes u → t ≡ u
accepted-once a b = accepted-same a b

pub accepted-file : {t : Trace} → WellFormed t → {r : List ℕ} → CompleteRunOf t r → AcceptedTrace (bytes_of base t) t
accepted-file {t} w {r} c = (accepted-complete (bytes_of base t) t (trace-file t w).1).1 (r, c)
