-- Question 10 as the code asks it, of a file that reads as a trace. In order: the walk that leaves nothing out; the
-- answer.
use mathlib.Core.List.{List}
use mathlib.Core.Path.{◌≡◌}
use native.Mathlib.Omega.{arith}
use Prim.Native.Nat.{ℕ, ◌+◌, ◌<◌, ◌≤◌}
use lib.ListN.{get_or}
use borrow.Author.Tests.{le-leb, lt-leb}
use Rattle.trace.specs.Premises.{HoldsTrace}
use Rattle.trace.specs.Reading.{refused, file_reading, trace_of}
use Rattle.trace.specs.Trace.{size}
use Rattle.trace.proofs.Fitting.{trace-fits}
use Rattle.model.specs.Computed.{first_outside}
use Rattle.index.specs.Indexed.{Indexed}
use Rattle.index.specs.Steps.{Handed}
use Rattle.index.proofs.Lookups.{holds-places, part-start, part-ordered}
use Rattle.states.specs.States.{lowest_left}
use Rattle.states.proofs.Answers.{exhausted-outside}
use Rattle.courses.specs.Courses.{Opens, Ended}
use Rattle.courses.proofs.Starting.{listed-opens}
use Rattle.std.specs.Prelude.{Ok}
use Rattle.trace.specs.Answer.{Refused, counts_of}
use Rattle.accept.specs.Acceptance.{acceptance, accept_answer}

module _ {bytes : List ℕ} {p n : ℕ} (h : HoldsTrace bytes p n) where
  -- ---- the walk

  -- the parts lie inside the order
  pub parts-few : {order starts : List ℕ} → Indexed (trace_of bytes) order starts
      → (q : ℕ) → q < 16 → get_or starts (q + 1) 0 ≤ 1024
  parts-few i q l = omega (arith, part-start (holds-places h i) (q + 1) (omega arith), h.few)

  pub handed-opens : {order starts list ends : List ℕ} → Handed (trace_of bytes) order starts list ends
      → Opens starts ends
  handed-opens x = listed-opens x.listed (part-ordered (holds-places h x.indexed))

  pub done-place : {done : List ℕ} → Ended (trace_of bytes) (size (trace_of bytes)) done
      → lowest_left (trace_of bytes) done p ≡ first_outside (trace_of bytes)
  done-place x = rw (← h.workers) (exhausted-outside (trace-fits h) x.exhausted)

  -- ---- the answer

  module _ {k : ℕ} (e : k ≡ first_outside (trace_of bytes)) where
    pub answer-refused : k < n → Refused 10 k ≡ accept_answer bytes
    unfolding acceptance accept_answer
    answer-refused l = rw (h.trace, h.count, ← e) (simp (lt-leb n k l))

    pub answer-accepted : n ≤ k → Ok (counts_of (trace_of bytes)) ≡ accept_answer bytes
    unfolding acceptance accept_answer
    answer-accepted l = rw (h.trace, h.count, ← e) (simp (le-leb n k l, h.count))

pub answer-unread : (bytes : List ℕ) {q k : ℕ} → file_reading bytes ≡ refused q k → Refused q k ≡ accept_answer bytes
unfolding acceptance accept_answer
answer-unread bytes e = rw e
