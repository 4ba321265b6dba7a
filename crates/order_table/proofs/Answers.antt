-- What the call answers and leaves in the lent table. In order: by the outcome of the questions; as the code comes to
-- it; what the answer says.
use mathlib.Core.List.{List}
use mathlib.Core.Logic.{◌↔◌}
use mathlib.Core.Path.{◌≡◌, refl, ◌∙◌}
use Prim.Native.Nat.{ℕ, ◌*◌, ◌<◌, ◌≤◌}
use lib.ListN.{length}
use Rattle.trace.specs.Premises.{HoldsTrace}
use Rattle.trace.specs.Refusals.{by_earlier, by_this}
use Rattle.trace.specs.Reading.{Reading, refused, trace_of}
use Rattle.trace.specs.Trace.{size}
use Rattle.trace.proofs.Outcomes.{tells-refusals, outcome-refused, outcome-reads, refuses-nothing, same-counts}
use Rattle.std.specs.Prelude.{Ok}
use Rattle.trace.specs.Answer.{Refused, counts_of}
use Rattle.order_table.specs.Table.{Filled}
use Rattle.accept.specs.Acceptance.{AcceptedTrace, accept_answer}
use Rattle.accept.proofs.Answers.{refused-answer}
use Rattle.accept.proofs.Questions.{accepted-trace, accepted-holds}
use Rattle.lent.specs.Left.{left_by}
use Rattle.lent.specs.Written.{written_over}
use Rattle.table_rows.specs.Rows.{order_table}
use Rattle.order_table.specs.Table.{table_reading, answer_of, table_answer, table_after}
use Rattle.order_table.specs.Table.{TableCall}
use Rattle.order_table.specs.Refusals.{AcceptedTable, RefusedTable}
use Rattle.order_table.proofs.Questions.{table-comes-out}

-- ---- by the outcome of the questions

pub call_by : (bytes lent : List ℕ) {r : Reading} → table_reading bytes (length lent) ≡ r
    → TableCall bytes lent (answer_of r) (left_by order_table r lent)
unfolding table_answer table_after
call_by bytes lent e = record { answers = rw e; leaves = rw e }

by-no : (bytes lent : List ℕ) {q k : ℕ} → RefusedTable bytes (length lent) q k → TableCall bytes lent (Refused q k) lent
by-no bytes lent {q} {k} r = call_by bytes lent (((table-comes-out bytes (length lent)).refuses q k).1 r)

-- ---- as the code comes to it

module _ {bytes : List ℕ} {p n : ℕ} (a : AcceptedTrace bytes (trace_of bytes) × HoldsTrace bytes p n) (lent : List ℕ)
  where
    numbers : size (trace_of bytes) * (trace_of bytes).workers ≡ n * p
    numbers = rw (a.1.workers, a.1.count)

    pub call-filled : n * p ≤ length lent → {now : List ℕ} → now ≡ written_over (order_table (trace_of bytes)) lent
        → TableCall bytes lent (Ok (counts_of (trace_of bytes))) now
    call-filled l i =
        let room : AcceptedTable bytes (length lent) (trace_of bytes)
        = record { accepted = a.0; table_holds = rw numbers l } in
        let passed = ((table-comes-out bytes (length lent)).passes (trace_of bytes)).1 room in
        let c = call_by bytes lent passed in
        record { answers = c.answers; leaves = i ∙ c.leaves }

    pub call-short : length lent < n * p → TableCall bytes lent (Refused 11 0) lent
    call-short l = by-no bytes lent (by_this (trace_of bytes) a.0 (rw numbers l) refl refl)

pub call-refused : (bytes lent : List ℕ) {q k : ℕ} → accept_answer bytes ≡ Refused q k
    → TableCall bytes lent (Refused q k) lent
call-refused bytes lent {q} {k} i = by-no bytes lent (by_earlier ((refused-answer bytes q k).0 i))

-- ---- what the answer says

module _ (bytes lent : List ℕ) where
  pub table-refused : (q k : ℕ)
      → (table_answer bytes lent ≡ Refused q k) ↔ (table_reading bytes (length lent) ≡ refused q k)
  unfolding table_answer
  table-refused q k = outcome-refused answer_of (tells-refusals _) (table_reading bytes (length lent)) q k

  -- the file is accepted and the table long enough; the trace has p workers and n operations
  pub table_filled : (p n : ℕ) → table_answer bytes lent ≡ Filled p n
      → AcceptedTable bytes (length lent) (trace_of bytes) × HoldsTrace bytes p n
  unfolding table_answer
  table_filled p n a =
      let (t, e, i) = outcome-reads answer_of (refuses-nothing counts_of _) (table_reading bytes (length lent)) a in
      let passed = ((table-comes-out bytes (length lent)).passes t).0 e in
      let (ep, en) = same-counts t i in
      let same = accepted-trace passed.accepted in
      (rw same passed, rw (ep, en) at (accepted-holds passed.accepted))
