-- A written trace is read back. In order: one record; the records; the file. All over any form.
use mathlib.Core.Bool.{true}
use mathlib.Core.List.{List, [], ◌∷◌, ◌++◌, append_assoc, append-nil}
use mathlib.Core.Path.{◌≡◌, refl, sym, ap, ap₂, ◌∙◌}
use native.Mathlib.Nat.{mul-suc}
use native.Mathlib.Omega.{arith}
use Prim.Native.Nat.{ℕ, suc, ◌*◌, ◌<◌}
use lib.ListN.{length, get_or, drop, length-append}
use lib.Seq.{drop_at}
use borrow.Author.Tests.{eq-eqb}
use Rattle.trace.specs.declared.Operation.{Operation}
use Rattle.trace.specs.Form.{Form, record_size, start}
use Rattle.trace.specs.LittleEndian.{digits}
use Rattle.trace.specs.Questions.{operation_in, marked, ranked, header_question, record_question}
use Rattle.trace.specs.Reading.{reads, reading, reading_from}
use Rattle.trace.specs.Trace.{Trace, size, no_operation, rank_after}
use Rattle.trace.specs.Writing.{record_bytes, records_bytes, bytes_of, header, Admitted, FitsRecord, WellFormed}
use Rattle.trace.proofs.Answered.{admitted-answered, answered-record, answered-header}
use Rattle.trace.proofs.LittleEndian.{value-digits, value-append, length_digits}

-- ---- one record, and what follows it

module _ (f : Form) (r : ℕ) (o : Operation) where
  pub length-record : length (record_bytes f r o) ≡ record_size f
  unfolding record_bytes digits
  length-record = simp length_digits (omega arith)

  module _ (rest : List ℕ) where
    pub marked-record : marked f (record_bytes f r o ++ rest) ≡ true
    unfolding record_bytes marked
    marked-record = simp (eq-eqb f.first f.first refl, eq-eqb f.second f.second refl)

    pub operation-record : FitsRecord o → operation_in (record_bytes f r o ++ rest) ≡ o
    unfolding operation_in record_bytes digits
    operation-record h =
        ap₂ (λ (n l : ℕ). record { worker = o.worker; kind = o.kind; number = n; length = l })
        (value-digits 4 o.number ((digits 2 o.length ++ digits f.rank_width r) ++ rest) h.number)
        (value-digits 2 o.length (digits f.rank_width r ++ rest) h.length)

    pub ranked-record : ranked f r (record_bytes f r o ++ rest) ≡ true
    unfolding ranked record_bytes digits
    ranked-record =
        eq-eqb _ _ (value-append f.rank_width (digits f.rank_width r) rest (length_digits f.rank_width r))

    pub drop-record : drop (record_size f) (record_bytes f r o ++ rest) ≡ rest
    drop-record = drop_at (record_bytes f r o) rest _ length-record

-- ---- the records

-- operations that records can hold and that no question refuses
pub record Storable (p : ℕ) (os : List Operation) : Type 0 where
  pub each : (k : ℕ) → k < length os → Admitted p (get_or os k no_operation)
  pub fits : (k : ℕ) → k < length os → FitsRecord (get_or os k no_operation)

module _ {p : ℕ} {o : Operation} {os : List Operation} (h : Storable p (o ∷ os)) where
  pub storable-first : Admitted p o
  storable-first = h.each 0 (omega arith)

  pub storable-fits : FitsRecord o
  storable-fits = h.fits 0 (omega arith)

  pub storable-rest : Storable p os
  storable-rest =
      record { each = λ k l. h.each (suc k) (omega arith); fits = λ k l. h.fits (suc k) (omega arith) }

question-record : (f : Form) (p : ℕ) (before : List Operation) (o : Operation) (rest : List ℕ) → Admitted p o → FitsRecord o
    → record_question f p before (record_bytes f (rank_after before o) o ++ rest) ≡ 0
question-record f p before o rest a h =
    let bytes = record_bytes f (rank_after before o) o ++ rest in
    let e = operation-record f (rank_after before o) o rest h in
    answered-record f p before bytes
    (record {
      mark = marked-record f (rank_after before o) o rest;
      asked = rw e (admitted-answered a);
      rank = rw e (ranked-record f (rank_after before o) o rest);
    })

reading-records : (f : Form) (p : ℕ) (before os : List Operation) → Storable p os
    → reading_from f p before (length os) (records_bytes f before os)
    ≡ reads (record { workers = p; operations = before ++ os })
unfolding reading_from records_bytes
reading-records f p before [] h = rw append-nil
reading-records f p before (o ∷ os) h =
    let r = rank_after before o in
    let rest = records_bytes f (before ++ o ∷ []) os in
    let step = reading-records f p (before ++ o ∷ []) os (storable-rest h) in
    simp (
      eq-eqb _ _ (question-record f p before o rest (storable-first h) (storable-fits h)),
      operation-record f r o rest (storable-fits h),
      drop-record f r o rest,
    )
    (rw append_assoc at step)

pub length-records : (f : Form) (before os : List Operation)
    → length (records_bytes f before os) ≡ record_size f * length os
unfolding records_bytes
length-records f before [] = omega arith
length-records f before (o ∷ os) =
    simp (length-append, length-record)
    (omega (arith, length-records f (before ++ o ∷ []) os, mul-suc (record_size f) (length os)))

-- the records of two lists one after the other, and of one operation
pub records-append : (f : Form) (before a b : List Operation)
    → records_bytes f before (a ++ b) ≡ records_bytes f before a ++ records_bytes f (before ++ a) b
unfolding records_bytes
records-append f before [] b = rw append-nil
records-append f before (o ∷ a) b =
    rw (records-append f (before ++ o ∷ []) a b, append_assoc before (o ∷ []) a, append_assoc)

pub records-one : (f : Form) (before : List Operation) (o : Operation)
    → records_bytes f before (o ∷ []) ≡ record_bytes f (rank_after before o) o
unfolding records_bytes
records-one f before o = append-nil _

-- ---- the file

pub length-bytes : (f : Form) (t : Trace) → length (bytes_of f t) ≡ start f (size t)
unfolding bytes_of
length-bytes f t = simp (length-append, length-record, length-records)

module _ (f : Form) (t : Trace) (w : WellFormed t) where
  header_read : operation_in (bytes_of f t) ≡ header t
  unfolding bytes_of
  header_read =
      operation-record f 0 (header t) (records_bytes f [] t.operations)
      (record { number = omega (arith, w.few); length = omega arith })

  workers-read : (operation_in (bytes_of f t)).worker ≡ t.workers
  workers-read = ap (λ (o : Operation). o.worker) header_read

  count-read : (operation_in (bytes_of f t)).number ≡ size t
  count-read = ap (λ (o : Operation). o.number) header_read

  header-passes : header_question f (bytes_of f t) ≡ 0
  unfolding bytes_of
  header-passes =
      let rest = records_bytes f [] t.operations in
      let e = header_read in
      answered-header f (bytes_of f t)
      (record {
        mark = marked-record f 0 (header t) rest;
        kind = ap (λ (o : Operation). o.kind) e;
        empty = ap (λ (o : Operation). o.length) e;
        rank = ranked-record f 0 (header t) rest;
        some = omega (arith, workers-read, w.some);
        most = omega (arith, workers-read, w.most);
        few = omega (arith, count-read, w.few);
        whole = length-bytes f t ∙ ap (start f) (sym count-read);
      })

  -- reading the bytes of a well-formed trace gives the trace
  pub reading-bytes : reading f (bytes_of f t) ≡ reads t
  unfolding reading bytes_of
  reading-bytes =
      simp (
        eq-eqb _ _ header-passes,
        workers-read,
        count-read,
        drop-record f 0 (header t) (records_bytes f [] t.operations),
      )
      (reading-records f t.workers [] t.operations (record { each = w.each; fits = w.fits }))
