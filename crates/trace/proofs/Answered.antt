-- What questions answered yes say. In order: the first "no"; the questions of an operation, in both directions; the
-- questions of a record; the questions of the header.
use mathlib.Core.Bool.{Bool, true, false, cond}
use mathlib.Core.List.{List, [], ◌∷◌, append-nil}
use mathlib.Core.Path.{◌≡◌, refl}
use native.Mathlib.Omega.{arith}
use Prim.Native.Nat.{ℕ, ◌+◌, ◌^◌, ◌<◌, ◌≤◌}
use lib.Dec.{T, eqb, leb}
use lib.ListN.{length, drop}
use borrow.Author.Tests.{leb-true, ltb-true, eqb-true, lt-ltb, le-leb, eq-eqb}
use Rattle.basics.proofs.Booleans.{both_true}
use Rattle.trace.specs.declared.Operation.{Operation}
use Rattle.trace.specs.Form.{Form, base, record_size, start}
use Rattle.trace.specs.LittleEndian.{value}
use Rattle.trace.specs.Questions.{Question, ask, first_no, operation_in, marked, ranked, is_header, workers_fit}
use Rattle.trace.specs.Questions.{count_fits, is_whole, header_question, worker_known, kind_known, event_fits}
use Rattle.trace.specs.Questions.{cells_fit, record_question}
use Rattle.trace.specs.Trace.{is_sync, is_access, rank_after}
use Rattle.trace.specs.Writing.{Admitted}
use Rattle.trace.proofs.LittleEndian.{value-digits}

-- ---- the first "no"

-- a question answered no refuses; one answered yes leaves it to the rest
pub first-no : (b : Bool) (k : ℕ) (rest : List Question) → b ≡ false → first_no (ask k b ∷ rest) ≡ k
first-no b k rest e = rw e

pub first_next : (b : Bool) (k : ℕ) (rest : List Question) → b ≡ true → first_no (ask k b ∷ rest) ≡ first_no rest
first_next b k rest e = rw e

-- no question is refused: the first is answered yes, and none of the rest is refused
pub first-yes : (b : Bool) (x k : ℕ) → 0 < k → cond b x k ≡ 0 → (b ≡ true) × (x ≡ 0)
first-yes true x k h e = (refl, e)
first-yes false x k h e = absurd (omega arith)

-- a test that is asked only where another passes
pub asked-if : (a b : Bool) → cond a b true ≡ true → T a → b ≡ true
asked-if true b e h = e
asked-if false b e h = absurd h

pub if-asked : (a b : Bool) → (T a → b ≡ true) → cond a b true ≡ true
if-asked true b f = f tt
if-asked false b f = refl

-- ---- the questions of an operation

pub record Answered (p : ℕ) (o : Operation) : Type 0 where
  pub worker : worker_known p o ≡ true
  pub kind : kind_known o ≡ true
  pub event : event_fits o ≡ true
  pub cells : cells_fit o ≡ true

-- they are answered yes exactly of the operations that are admitted
pub answered-admitted : {p : ℕ} {o : Operation} → Answered p o → Admitted p o
unfolding kind_known event_fits cells_fit
answered-admitted {p} {o} a =
    let k = both_true (leb 1 o.kind) (leb o.kind 4) a.kind in
    record {
      worker = ltb-true o.worker p a.worker;
      kind = (leb-true 1 o.kind k.0, leb-true o.kind 4 k.1);
      event = λ h.
          let asked = asked-if (is_sync o.kind) _ a.event h in
          let b = both_true (leb o.number 255) (eqb o.length 0) asked in
          (leb-true o.number 255 b.0, eqb-true o.length 0 b.1);
      cells = λ h.
          let asked = asked-if (is_access o.kind) _ a.cells h in
          let b = both_true (leb 1 o.length) (leb (o.number + o.length) 4294967296) asked in
          (leb-true 1 o.length b.0, leb-true (o.number + o.length) 4294967296 b.1);
    }

pub admitted-answered : {p : ℕ} {o : Operation} → Admitted p o → Answered p o
unfolding kind_known event_fits cells_fit
admitted-answered {p} {o} a =
    record {
      worker = lt-ltb o.worker p a.worker;
      kind = simp (le-leb 1 o.kind a.kind.0, le-leb o.kind 4 a.kind.1);
      event = if-asked (is_sync o.kind) _
          (λ h. simp (le-leb o.number 255 (a.event h).0, eq-eqb o.length 0 (a.event h).1));
      cells = if-asked (is_access o.kind) _
          (λ h. simp (le-leb 1 o.length (a.cells h).0, le-leb (o.number + o.length) 4294967296 (a.cells h).1));
    }

-- ---- the questions of a record

-- document 01's form has no rank field, so nothing is asked of it
pub ranked-base : (r : ℕ) (bytes : List ℕ) → ranked base r bytes ≡ true
unfolding ranked value
ranked-base r bytes = refl

-- where r fits the rank field, the field holds r
pub ranked-means : (f : Form) (r : ℕ) (bytes : List ℕ) → r < 256 ^ f.rank_width
    → ranked f r bytes ≡ eqb (value f.rank_width (drop 10 bytes)) r
unfolding ranked
ranked-means f r bytes h = rw (rw append-nil at (value-digits f.rank_width r [] h))

pub record RecordAnswered (f : Form) (p r : ℕ) (bytes : List ℕ) : Type 0 where
  pub mark : marked f bytes ≡ true
  pub asked : Answered p (operation_in bytes)
  pub rank : ranked f r bytes ≡ true

pub record-answered : (f : Form) (p : ℕ) (before : List Operation) (bytes : List ℕ)
    → record_question f p before bytes ≡ 0 → RecordAnswered f p (rank_after before (operation_in bytes)) bytes
unfolding record_question
record-answered f p before bytes e =
    let o = operation_in bytes in
    let m = first-yes (marked f bytes) _ 5 (omega arith) e in
    let a = first-yes (worker_known p o) _ 6 (omega arith) m.1 in
    let b = first-yes (kind_known o) _ 7 (omega arith) a.1 in
    let c = first-yes (event_fits o) _ 8 (omega arith) b.1 in
    let d = first-yes (cells_fit o) _ 9 (omega arith) c.1 in
    let r = first-yes (ranked f (rank_after before o) bytes) 0 23 (omega arith) d.1 in
    record {
      mark = m.0;
      asked = record { worker = a.0; kind = b.0; event = c.0; cells = d.0 };
      rank = r.0;
    }

pub answered-record : (f : Form) (p : ℕ) (before : List Operation) (bytes : List ℕ)
    → RecordAnswered f p (rank_after before (operation_in bytes)) bytes → record_question f p before bytes ≡ 0
unfolding record_question
answered-record f p before bytes a =
    simp (a.mark, a.asked.worker, a.asked.kind, a.asked.event, a.asked.cells, a.rank)

-- ---- the questions of the header

pub record HeaderAnswered (f : Form) (bytes : List ℕ) : Type 0 where
  pub mark : marked f bytes ≡ true
  pub kind : (operation_in bytes).kind ≡ 0
  pub empty : (operation_in bytes).length ≡ 0
  pub rank : ranked f 0 bytes ≡ true
  pub some : 1 ≤ (operation_in bytes).worker
  pub most : (operation_in bytes).worker ≤ 16
  pub few : (operation_in bytes).number ≤ 1024
  pub whole : length bytes ≡ start f (operation_in bytes).number

pub header-answered : (f : Form) (bytes : List ℕ) → header_question f bytes ≡ 0 → HeaderAnswered f bytes
unfolding header_question is_header workers_fit
header-answered f bytes e =
    let o = operation_in bytes in
    let a = first-yes (is_header f bytes) _ 1 (omega arith) e in
    let b = first-yes (workers_fit o.worker) _ 2 (omega arith) a.1 in
    let c = first-yes (count_fits o.number) _ 3 (omega arith) b.1 in
    let d = first-yes (is_whole f o.number bytes) 0 4 (omega arith) c.1 in
    let h = both_true (leb (record_size f) (length bytes)) _ a.0 in
    let m = both_true (marked f bytes) _ h.1 in
    let k = both_true (eqb o.kind 0) _ m.1 in
    let l = both_true (eqb o.length 0) (ranked f 0 bytes) k.1 in
    let w = both_true (leb 1 o.worker) (leb o.worker 16) b.0 in
    record {
      mark = m.0;
      kind = eqb-true _ _ k.0;
      empty = eqb-true _ _ l.0;
      rank = l.1;
      some = leb-true _ _ w.0;
      most = leb-true _ _ w.1;
      few = leb-true _ _ c.0;
      whole = eqb-true _ _ d.0;
    }

pub answered-header : (f : Form) (bytes : List ℕ) → HeaderAnswered f bytes → header_question f bytes ≡ 0
unfolding header_question is_header workers_fit
answered-header f bytes a =
    simp (
      le-leb (record_size f) (length bytes) (omega (arith, a.whole)),
      a.mark,
      a.kind,
      a.empty,
      a.rank,
      le-leb 1 (operation_in bytes).worker a.some,
      le-leb (operation_in bytes).worker 16 a.most,
      le-leb (operation_in bytes).number 1024 a.few,
      eq-eqb (length bytes) (start f (operation_in bytes).number) a.whole,
    )

-- question 1 says that the file has a whole record
pub header-long : (f : Form) (bytes : List ℕ) → is_header f bytes ≡ true → record_size f ≤ length bytes
unfolding is_header
header-long f bytes e = leb-true (record_size f) (length bytes) (both_true (leb (record_size f) (length bytes)) _ e).0
