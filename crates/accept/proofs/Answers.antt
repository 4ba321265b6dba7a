-- What the call's answer says. In order: a refusal; the counts; an accepted file.
use mathlib.Core.List.{List}
use mathlib.Core.Logic.Iff
use mathlib.Core.Logic.{◌↔◌}
use mathlib.Core.Path.{◌≡◌, ap}
use Prim.Native.Nat.{ℕ}
use Rattle.trace.specs.Premises.{HoldsTrace}
use Rattle.trace.specs.Reading.{refused, reads, file_reading, trace_of}
use Rattle.trace.specs.Trace.{Trace, size}
use Rattle.trace.proofs.Answers.{trace-reads}
use Rattle.trace.proofs.Outcomes.{tells-refusals, outcome-refused, outcome-reads, refuses-nothing, same-counts}
use Rattle.trace.specs.Answer.{Refused, counts_of}
use Rattle.accept.specs.Acceptance.{Accepted, acceptance, AcceptedTrace, answer_of, accept_answer}
use Rattle.accept.specs.Refusals.{RefusedFile}
use Rattle.accept.proofs.Questions.{accepted-reads, accepted-trace, accepted-holds, refused-file}

module _ (bytes : List ℕ) where
  pub answer-means : (q k : ℕ) → (accept_answer bytes ≡ Refused q k) ↔ (acceptance bytes ≡ refused q k)
  unfolding accept_answer
  answer-means q k = outcome-refused answer_of (tells-refusals _) (acceptance bytes) q k

  -- it is the refusal by the first "no"
  pub refused-answer : (q k : ℕ) → (accept_answer bytes ≡ Refused q k) ↔ RefusedFile bytes q k
  refused-answer q k = Iff.trans (answer-means q k) (refused-file bytes q k)

  -- the file is accepted, and its trace has p workers and n operations
  pub answer-accepts : (p n : ℕ) → accept_answer bytes ≡ Accepted p n
      → AcceptedTrace bytes (trace_of bytes) × HoldsTrace bytes p n
  unfolding accept_answer
  answer-accepts p n a =
      let (t, e, i) = outcome-reads answer_of (refuses-nothing counts_of _) (acceptance bytes) a in
      let accepted : AcceptedTrace bytes t = record { passes = e } in
      let (ep, en) = same-counts t i in
      (rw (accepted-trace accepted) accepted, rw (ep, en) at (accepted-holds accepted))

  -- a file is accepted with trace t exactly if it reads as t and the answer is t's counts
  pub accepted-answer : (t : Trace)
      → AcceptedTrace bytes t ↔ ((file_reading bytes ≡ reads t) × (accept_answer bytes ≡ Accepted t.workers (size t)))
  unfolding accept_answer
  accepted-answer t = (λ a. (accepted-reads a, ap answer_of a.passes), λ p. back p.0 p.1)
    where
      back : file_reading bytes ≡ reads t → answer_of (acceptance bytes) ≡ Accepted t.workers (size t)
          → AcceptedTrace bytes t
      back e a = rw (trace-reads bytes t e) at (answer-accepts t.workers (size t) a).0
