-- What the answer is, by how the file reads, and what callers know of a file from it. In order: the answer; the trace's
-- counts; the refusal. What is known of a file that reads as a trace, and which refusal a file gets, is in the crate
-- `trace`.
use mathlib.Core.List.{List}
use mathlib.Core.Path.{◌≡◌}
use Prim.Native.Nat.{ℕ}
use Rattle.std.specs.Prelude.{Ok, Err}
use Rattle.trace.specs.declared.Refusal.{Refusal}
use Rattle.trace.specs.Answer.{Refused, counts, counts_of}
use Rattle.trace.specs.Premises.{HoldsTrace}
use Rattle.trace.specs.Reading.{refused, reads, file_reading, trace_of}
use Rattle.trace.proofs.Answers.{file-holds}
use Rattle.trace.proofs.Outcomes.{tells-refusals, outcome-refused, outcome-reads, refuses-nothing, same-counts}
use Rattle.reader.specs.Answer.{answer_of}

module _ (bytes : List ℕ) where
  pub refused-answer : {r : Refusal} → file_reading bytes ≡ refused r.number r.place
      → Err r ≡ answer_of (file_reading bytes)
  unfolding answer_of
  refused-answer e = rw e

  pub read-answer : file_reading bytes ≡ reads (trace_of bytes)
      → Ok (counts_of (trace_of bytes)) ≡ answer_of (file_reading bytes)
  unfolding answer_of
  read-answer e = rw e

  -- the file reads as a trace of p workers and n operations
  pub answer-holds : (p n : ℕ) → answer_of (file_reading bytes) ≡ Ok (counts p n) → HoldsTrace bytes p n
  unfolding answer_of
  answer-holds p n a =
      let (t, e, i) = outcome-reads answer_of (refuses-nothing counts_of _) (file_reading bytes) a in
      let (ep, en) = same-counts t i in
      rw (ep, en) at (file-holds bytes t e)

  -- the file is refused, with this number and place
  pub answer-refused : (q k : ℕ) → answer_of (file_reading bytes) ≡ Refused q k → file_reading bytes ≡ refused q k
  unfolding answer_of
  answer-refused q k a = (outcome-refused answer_of (tells-refusals counts_of) (file_reading bytes) q k).0 a
