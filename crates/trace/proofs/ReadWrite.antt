-- What a file that reads as a trace is like: the bytes of that trace, which is well-formed. In order: one step; the
-- trace; the records' bytes; the file; the law in both directions. All over any form.
use mathlib.Core.Bool.{Bool, true, false, cond}
use mathlib.Core.List.{List, [], ◌∷◌, ◌++◌, append_assoc, append-nil}
use mathlib.Core.Logic.{◌↔◌}
use mathlib.Core.Path.{◌≡◌, refl, sym, ap, ap₂, ◌∙◌}
use native.Mathlib.Nat.{mul-suc}
use native.Mathlib.Omega.{arith}
use Prim.Native.Nat.{ℕ, zero, suc, ◌+◌, ◌*◌, ◌<◌, ◌≤◌}
use lib.Dec.{eqb}
use lib.ListN.{length, get_or, take, drop, length-drop, take-append-drop}
use lib.Seq.{take-add, take_all, drop-drop}
use borrow.Author.Tests.{eqb-true}
use Rattle.basics.proofs.Booleans.{both_true}
use Rattle.trace.specs.declared.Operation.{Operation}
use Rattle.trace.specs.Form.{Form, record_size, start}
use Rattle.trace.specs.LittleEndian.{value, digits}
use Rattle.trace.specs.Questions.{operation_in, marked, ranked, header_question, record_question}
use Rattle.trace.specs.Reading.{Reading, refused, reads, reading, reading_from}
use Rattle.trace.specs.Refusals.{operations_in}
use Rattle.trace.specs.Trace.{Trace, size, operation, no_operation, rank_after}
use Rattle.trace.specs.Writing.{record_bytes, records_bytes, bytes_of, header, Admitted, FitsRecord, WellFormed, Bytes}
use Rattle.trace.proofs.Answered.{answered-admitted, record-answered, HeaderAnswered, header-answered}
use Rattle.trace.proofs.LittleEndian.{length_digits, digits-bytes, digits_value, value-below, tail-bytes}
use Rattle.trace.proofs.LittleEndian.{drop-bytes}
use Rattle.trace.proofs.Records.{length-operations, operations-at}
use Rattle.trace.proofs.WriteRead.{reading-bytes}

-- ---- one step

not-refused : (b : Bool) (x : Reading) (q k : ℕ) (t : Trace) → cond b x (refused q k) ≡ reads t
    → (b ≡ true) × (x ≡ reads t)
not-refused true x q k t e = (refl, e)
not-refused false x q k t e = absurd (let z : ◌≡◌ {A = ℕ} 0 1 = cc in omega arith)

module _ (f : Form) (p : ℕ) (before : List Operation) (left : ℕ) (bytes : List ℕ) (t : Trace)
    (e : reading_from f p before (suc left) bytes ≡ reads t) where
  step : (eqb (record_question f p before bytes) 0 ≡ true)
      × (reading_from f p (before ++ operation_in bytes ∷ []) left (drop (record_size f) bytes) ≡ reads t)
  unfolding reading_from
  step = not-refused (eqb (record_question f p before bytes) 0) _ (record_question f p before bytes) (length before) t e

  step-asked : record_question f p before bytes ≡ 0
  step-asked = eqb-true _ _ step.0

-- ---- the trace

from-operations : (f : Form) (p left : ℕ) (before : List Operation) (bytes : List ℕ) (t : Trace)
    → reading_from f p before left bytes ≡ reads t
    → record { workers = p; operations = before ++ operations_in f left bytes } ≡ t
unfolding reading_from operations_in
from-operations f p zero before bytes t e = rw append-nil (cc)
from-operations f p (suc left) before bytes t e =
    let next = (step f p before left bytes t e).1 in
    rw append_assoc at (from-operations f p left (before ++ operation_in bytes ∷ []) (drop (record_size f) bytes) t next)

from-admitted : (f : Form) (p left : ℕ) (before : List Operation) (bytes : List ℕ) (t : Trace)
    → reading_from f p before left bytes ≡ reads t
    → (k : ℕ) → k < left → Admitted p (get_or (operations_in f left bytes) k no_operation)
unfolding operations_in
from-admitted f p zero before bytes t e k h = absurd (omega arith)
from-admitted f p (suc left) before bytes t e zero h =
    answered-admitted (record-answered f p before bytes (step-asked f p before left bytes t e)).asked
from-admitted f p (suc left) before bytes t e (suc k) h =
    from-admitted f p left (before ++ operation_in bytes ∷ []) (drop (record_size f) bytes) t
    (step f p before left bytes t e).1 k (omega arith)

-- ---- the bytes of a record

ten-read : (f : Form) (r : ℕ) (bytes : List ℕ) → Bytes bytes → marked f bytes ≡ true → 10 ≤ length bytes
    → record_bytes f r (operation_in bytes) ≡ take 10 bytes ++ digits f.rank_width r
unfolding record_bytes operation_in marked
ten-read f r [] h m l = absurd (omega arith)
ten-read f r (a ∷ []) h m l = absurd (omega arith)
ten-read f r (a ∷ b ∷ []) h m l = absurd (omega arith)
ten-read f r (a ∷ b ∷ c ∷ []) h m l = absurd (omega arith)
ten-read f r (a ∷ b ∷ c ∷ d ∷ rest) h m l =
    let e = both_true (eqb a f.first) (eqb b f.second) m in
    let k = tail-bytes (tail-bytes (tail-bytes (tail-bytes h))) in
    simp (
      eqb-true a f.first e.0,
      eqb-true b f.second e.1,
      digits_value 4 rest k (omega arith),
      digits_value 2 (drop 4 rest) (drop-bytes 4 rest k) (simp length-drop (omega arith)),
      take-add 4 2 rest,
      append_assoc,
    )

rank-read : (f : Form) (r : ℕ) (bytes : List ℕ) → Bytes bytes → ranked f r bytes ≡ true → record_size f ≤ length bytes
    → digits f.rank_width r ≡ take f.rank_width (drop 10 bytes)
unfolding ranked
rank-read f r bytes h e l =
    let width = f.rank_width in
    let same : value width (drop 10 bytes) ≡ value width (digits width r) = eqb-true _ _ e in
    sym (take_all width (digits width r) (omega (arith, length_digits width r)))
    ∙ sym (digits_value width (digits width r) (digits-bytes width r) (omega (arith, length_digits width r)))
    ∙ ap (digits width) (sym same)
    ∙ digits_value width (drop 10 bytes) (drop-bytes 10 bytes h) (simp length-drop (omega arith))

-- a record is the bytes of the operation written in it, at its rank
record-read : (f : Form) (r : ℕ) (bytes : List ℕ) → Bytes bytes → marked f bytes ≡ true → ranked f r bytes ≡ true
    → record_size f ≤ length bytes → record_bytes f r (operation_in bytes) ++ drop (record_size f) bytes ≡ bytes
record-read f r bytes h m k l =
    rw (ten-read f r bytes h m (omega arith), rank-read f r bytes h k l, ← take-add 10 f.rank_width bytes)
    (take-append-drop (record_size f) bytes)

-- records that no question refuses are the bytes of the operations written in them
records-read : (f : Form) (p left : ℕ) (before : List Operation) (bytes : List ℕ) (t : Trace)
    → Bytes bytes → length bytes ≡ record_size f * left → reading_from f p before left bytes ≡ reads t
    → records_bytes f before (operations_in f left bytes) ≡ bytes
unfolding records_bytes operations_in
records-read f p zero before [] t h l e = refl
records-read f p zero before (b ∷ bytes) t h l e = absurd (omega arith)
records-read f p (suc left) before bytes t h l e =
    let o = operation_in bytes in
    let rest = drop (record_size f) bytes in
    let a = record-answered f p before bytes (step-asked f p before left bytes t e) in
    let long : length bytes ≡ record_size f * left + record_size f = omega (arith, mul-suc (record_size f) left) in
    let long_rest : length rest ≡ record_size f * left = simp length-drop (omega arith) in
    let next = records-read f p left (before ++ o ∷ []) rest t (drop-bytes (record_size f) bytes h) long_rest in
    rw (next (step f p before left bytes t e).1)
    (record-read f (rank_after before o) bytes h a.mark a.rank (omega arith))

-- ---- the file

-- what a record holds fits it
operation-fits : (bytes : List ℕ) → Bytes bytes → FitsRecord (operation_in bytes)
unfolding operation_in
operation-fits bytes h =
    record {
      number = value-below 4 (drop 4 bytes) (drop-bytes 4 bytes h);
      length = value-below 2 (drop 8 bytes) (drop-bytes 8 bytes h);
    }

module _ (f : Form) (bytes : List ℕ) (t : Trace) (e : reading f bytes ≡ reads t) where
  pub header-yes : header_question f bytes ≡ 0
  unfolding reading
  header-yes = eqb-true _ _ (not-refused (eqb (header_question f bytes) 0) _ (header_question f bytes) 0 t e).0

  pub header-says : HeaderAnswered f bytes
  header-says = header-answered f bytes header-yes

  records-yes :
      reading_from f (operation_in bytes).worker [] (operation_in bytes).number (drop (record_size f) bytes) ≡ reads t
  unfolding reading
  records-yes = (not-refused (eqb (header_question f bytes) 0) _ (header_question f bytes) 0 t e).1

  -- the trace has the header's worker count and the operations written in the records
  pub reads-written :
      record {
        workers = (operation_in bytes).worker;
        operations = operations_in f (operation_in bytes).number (drop (record_size f) bytes);
      }
      ≡ t
  reads-written =
      let header = operation_in bytes in
      from-operations f header.worker header.number [] (drop (record_size f) bytes) t records-yes

  pub reads-workers : (operation_in bytes).worker ≡ t.workers
  reads-workers = ap (λ (u : Trace). u.workers) reads-written

  pub reads-operations : operations_in f (operation_in bytes).number (drop (record_size f) bytes) ≡ t.operations
  reads-operations = ap (λ (u : Trace). u.operations) reads-written

  pub reads-count : (operation_in bytes).number ≡ size t
  reads-count =
      sym (length-operations f (operation_in bytes).number (drop (record_size f) bytes)) ∙ ap length reads-operations

  -- no question refuses an operation of the trace
  pub reads-admitted : (k : ℕ) → k < size t → Admitted t.workers (operation t k)
  reads-admitted k h =
      let header = operation_in bytes in
      let a = from-admitted f header.worker header.number [] (drop (record_size f) bytes) t records-yes in
      rw (reads-workers, reads-operations) at (a k (omega (arith, reads-count)))

  -- operation k is the one written in its record
  pub reads_at : (k : ℕ) → k < size t → operation t k ≡ operation_in (drop (start f k) bytes)
  reads_at k h =
      let at = operations-at f (operation_in bytes).number k (drop (record_size f) bytes) (omega (arith, reads-count)) in
      rw reads-operations at at ∙ ap operation_in (drop-drop (record_size f * k) (record_size f) bytes)

  module _ (h : Bytes bytes) where
    header-same : operation_in bytes ≡ header t
    header-same =
        let o = operation_in bytes in
        ap₂ (λ (k l : ℕ). record { worker = o.worker; kind = k; number = o.number; length = l })
        header-says.kind
        header-says.empty
        ∙ ap₂ (λ (w n : ℕ). record { worker = w; kind = 0; number = n; length = 0 }) reads-workers reads-count

    -- a file that reads as a trace is the bytes of that trace
    pub reads_bytes : bytes_of f t ≡ bytes
    unfolding bytes_of
    reads_bytes =
        let n = (operation_in bytes).number in
        let rest = drop (record_size f) bytes in
        let long : length rest ≡ record_size f * n = simp length-drop (omega (arith, header-says.whole)) in
        let records = records-read f (operation_in bytes).worker n [] rest t (drop-bytes (record_size f) bytes h) long in
        rw (← header-same, ← reads-operations, records records-yes)
        (record-read f 0 bytes h header-says.mark header-says.rank (omega (arith, header-says.whole)))

    -- and the trace is well-formed
    pub reads-formed : WellFormed t
    reads-formed =
        record {
          some = omega (arith, header-says.some, reads-workers);
          most = omega (arith, header-says.most, reads-workers);
          few = omega (arith, header-says.few, reads-count);
          each = reads-admitted;
          fits = λ k l. rw (reads_at k l) (operation-fits (drop (start f k) bytes) (drop-bytes (start f k) bytes h));
        }

-- A file reads as trace t exactly if it is the bytes of t, and t is well-formed.
pub reads-means : (f : Form) (bytes : List ℕ) (t : Trace) → Bytes bytes
    → (reading f bytes ≡ reads t) ↔ ((bytes ≡ bytes_of f t) × WellFormed t)
reads-means f bytes t h =
    (λ e. (sym (reads_bytes f bytes t e h), reads-formed f bytes t e h), λ w. rw w.0 (reading-bytes f t w.1))
