-- The reader's steps against `reading`. In order: a record's questions, as the code asks them; the header, refused or
-- read; what is left to read from record k on; a record inside the file; the first record, the last; one record read,
-- one refused.
-- A law takes the code's own values with equations: what it read, where, and what was answered.
use mathlib.Core.Bool.{Bool, true, false, not, ◌&&◌, ◌||◌, cond}
use mathlib.Core.List.{List, [], ◌∷◌, ◌++◌}
use mathlib.Core.Path.{◌≡◌, refl, sym, ◌∙◌}
use native.Mathlib.Nat.{add-zero, mul-suc, mul-zero, sub-zero}
use native.Mathlib.Numerals.{add-one}
use native.Mathlib.Omega.{arith}
use Prim.Native.Nat.{ℕ, suc, ◌+◌, ◌*◌, ◌-◌, ◌<◌, ◌≤◌}
use lib.Dec.{eqb}
use Rattle.std.specs.Prelude.{None, Some}
use lib.ListN.{length, drop}
use lib.Seq.{drop-drop}
use borrow.Author.Tests.{eq-eqb, ne_eqb, eqb-true, eqb-false}
use Rattle.trace.specs.declared.Operation.{Operation}
use Rattle.trace.specs.Form.{Form, base, record_size, start}
use Rattle.trace.specs.Questions.{operation_in, marked, header_question, worker_known, kind_known, event_fits, cells_fit}
use Rattle.trace.specs.Questions.{record_question}
use Rattle.trace.specs.Reading.{Reading, refused, reads, reading, reading_from}
use Rattle.trace.specs.Refusals.{operations_in}
use Rattle.trace.proofs.Answered.{HeaderAnswered, header-answered, ranked-base}
use Rattle.trace.proofs.Records.{start-inside, length-operations, operations-more}
use Rattle.basics.proofs.Booleans.{zero_one}
use Rattle.reader.specs.Answer.{refusing}
use Rattle.reader.specs.Premises.{HoldsHeader}

-- ---- as the code tests a record

-- if x, then y
pub if-then : (x y : Bool) → (not x || y) ≡ cond x y true
if-then true y = refl
if-then false y = refl

all_yes : (a b c d e : Bool)
    → (a && ((b && c) && (d && e))) ≡ eqb (cond a (cond b (cond c (cond d (cond e 0 9) 8) 7) 6) 5) 0
all_yes false b c d e = refl
all_yes true false c d e = refl
all_yes true true false d e = refl
all_yes true true true false e = refl
all_yes true true true true false = refl
all_yes true true true true true = refl

-- no question refuses it exactly if each is answered yes
passes-asked : (p : ℕ) (before : List Operation) (bytes : List ℕ)
    → let o = operation_in bytes in
    (marked base bytes && ((worker_known p o && kind_known o) && (event_fits o && cells_fit o)))
    ≡ eqb (record_question base p before bytes) 0
unfolding record_question
passes-asked p before bytes =
    let o = operation_in bytes in
    rw (ranked-base _ _) (all_yes (marked base bytes) (worker_known p o) (kind_known o) (event_fits o) (cells_fit o))

-- from what the code worked out: each answer, and both of two
pub passes-told : (p : ℕ) (before : List Operation) (bytes : List ℕ) {o : Operation} → o ≡ operation_in bytes
    → {mark worker kind event cells first second all r : Bool} → mark ≡ marked base bytes → worker ≡ worker_known p o
    → kind ≡ kind_known o → event ≡ event_fits o → cells ≡ cells_fit o → first ≡ (worker && kind)
    → second ≡ (event && cells) → all ≡ (first && second) → r ≡ (mark && all)
    → r ≡ eqb (record_question base p before bytes) 0
passes-told p before bytes o m w k e c i j l r =
    r ∙ rw (l, i, j, m, w, k, e, c, o) (passes-asked p before bytes)

-- ---- the header

module _ (f : Form) (bytes : List ℕ) (q : ℕ) (asked : q ≡ header_question f bytes) where
  pub header-refuses : (q ≡ 0 → ⊥) → reading f bytes ≡ refused q 0
  unfolding reading
  header-refuses e = simp (← asked, ne_eqb _ _ e)

  pub header-holds : (o : Operation) → o ≡ operation_in bytes → q ≡ 0 → HoldsHeader f bytes o.worker o.number
  header-holds o here e = rw here (record { passes = sym asked ∙ e; workers = refl; count = refl })

-- ---- the records

-- what is left to read from record k on, in a file of p workers and n operations
abbrev pub reading_at : Form → ℕ → ℕ → List ℕ → ℕ → Reading
reading_at f p n bytes k =
    reading_from f p (operations_in f k (drop (record_size f) bytes)) (n - k) (drop (start f k) bytes)

next_start : (f : Form) (k : ℕ) (bytes : List ℕ)
    → drop (record_size f) (drop (start f k) bytes) ≡ drop (start f (k + 1)) bytes
next_start f k bytes =
    let e : start f k + record_size f ≡ start f (k + 1) = rw add-one (omega (arith, mul-suc (record_size f) k)) in
    drop-drop (record_size f) (start f k) bytes ∙ rw e

next-operation : (f : Form) (k : ℕ) (bytes : List ℕ)
    → operations_in f k (drop (record_size f) bytes) ++ operation_in (drop (start f k) bytes) ∷ []
    ≡ operations_in f (k + 1) (drop (record_size f) bytes)
next-operation f k bytes =
    let here = drop-drop (record_size f * k) (record_size f) bytes in
    rw (add-one, operations-more f k (drop (record_size f) bytes), here)

module _ (f : Form) (bytes : List ℕ) (p n : ℕ) (h : HoldsHeader f bytes p n) where
  answered : HeaderAnswered f bytes
  answered = header-answered f bytes h.passes

  pub header-few : n ≤ 1024
  header-few = omega (arith, answered.few, h.count)

  pub header-inside : (k at : ℕ) → k < n → at ≡ start f k → at + record_size f ≤ length bytes
  header-inside k at l here = omega (arith, start-inside f k n l, rw h.count at answered.whole)

  pub records-start : reading f bytes ≡ reading_at f p n bytes 0
  unfolding reading operations_in
  records-start =
      simp (eq-eqb _ _ h.passes, sub-zero, mul-zero, add-zero)
      (rw (h.workers, h.count))

  pub records-end : reading_at f p n bytes n
      ≡ reads (record { workers = p; operations = operations_in f n (drop (record_size f) bytes) })
  unfolding reading_from
  records-end = let none : n - n ≡ 0 = omega arith in rw none

  module _ (k at q : ℕ) (l : k < n) (here : at ≡ start f k)
      (asked : (before : List Operation) → q ≡ record_question f p before (drop at bytes)) where
    left_step : n - k ≡ suc (n - (k + 1))
    left_step = omega arith

    question-here : record_question f p (operations_in f k (drop (record_size f) bytes)) (drop (start f k) bytes) ≡ q
    question-here = rw (← here) (sym (asked (operations_in f k (drop (record_size f) bytes))))

    pub record-passes : q ≡ 0 → reading_at f p n bytes k ≡ reading_at f p n bytes (k + 1)
    unfolding reading_from
    record-passes e =
        rw left_step (simp (question-here, eq-eqb _ _ e, next_start f k bytes, next-operation f k bytes))

    pub record-refuses : (q ≡ 0 → ⊥) → reading_at f p n bytes k ≡ refused q k
    unfolding reading_from
    record-refuses e = rw left_step (simp (question-here, ne_eqb _ _ e, length-operations))

-- ---- which question refuses, if one does

some_none : {n : ℕ} → Some n ≡ None → ⊥
some_none e = zero_one cc

some_same : {n q : ℕ} → Some n ≡ Some q → n ≡ q
some_same e = cc

pub refuses-some : {q n : ℕ} → Some n ≡ refusing q → (n ≡ q) × (n ≡ 0 → ⊥)
refuses-some {q} {n} e = go (eqb q 0) refl
  where
    go : (b : Bool) → eqb q 0 ≡ b → (n ≡ q) × (n ≡ 0 → ⊥)
    go true d = absurd (some_none (rw d at e))
    go false d =
        let same : n ≡ q = some_same (rw d at e) in
        (same, λ z. eqb-false q 0 d (sym same ∙ z))

pub refuses-none : {q : ℕ} → None ≡ refusing q → q ≡ 0
refuses-none {q} e = go (eqb q 0) refl
  where
    go : (b : Bool) → eqb q 0 ≡ b → q ≡ 0
    go true d = eqb-true q 0 d
    go false d = absurd (some_none (sym (rw d at e)))
