-- A file is refused exactly by the first "no": the header's, or else that of the first record that has one, and the
-- place is the record's number. Over any form. In order: the question of a record; records, in both directions; the
-- file.
use mathlib.Core.Bool.{Bool, true, false}
use mathlib.Core.List.{List, [], ◌∷◌, ◌++◌, append_assoc, append-nil}
use mathlib.Core.Logic.{◌↔◌}
use mathlib.Core.Path.{◌≡◌, refl, sym, ◌∙◌}
use native.Mathlib.Nat.{add-zero, zero-add, mul-zero}
use native.Mathlib.Omega.{arith}
use Prim.Native.Nat.{ℕ, zero, suc, ◌+◌, ◌*◌, ◌<◌}
use lib.Dec.{eqb}
use lib.ListN.{length, drop, length-append}
use lib.Seq.{drop-drop}
use borrow.Author.Tests.{eqb-true, eqb-false, eq-eqb, ne_eqb}
use Rattle.trace.specs.declared.Operation.{Operation}
use Rattle.trace.specs.Form.{Form, record_size}
use Rattle.trace.specs.Questions.{operation_in, header_question, record_question}
use Rattle.trace.specs.Reading.{refused, reading, reading_from}
use Rattle.trace.specs.Refusals.{operations_in, record_question_at, RefusedFirst, by_header, by_record}
use Rattle.trace.proofs.Records.{drop-records}

-- the question that record i is refused by, among the records that the bytes start with; 0 where none refuses it
abbrev pub question_at : Form → ℕ → List Operation → List ℕ → ℕ → ℕ
question_at f p before bytes i =
    record_question f p (before ++ operations_in f i bytes) (drop (record_size f * i) bytes)

-- record j of `left` is the first that is refused, by question q
pub record FirstRefused
    (f : Form) (p : ℕ) (before : List Operation) (left : ℕ) (bytes : List ℕ) (q j : ℕ) : Type 0 where
  pub below : j < left
  pub passes : (i : ℕ) → i < j → question_at f p before bytes i ≡ 0
  pub asked : question_at f p before bytes j ≡ q
  pub some : q ≡ 0 → ⊥

module _ (f : Form) (p : ℕ) (before : List Operation) (bytes : List ℕ) where
  first-question : question_at f p before bytes 0 ≡ record_question f p before bytes
  unfolding operations_in
  first-question = rw (append-nil, mul-zero)

  -- the question of record i + 1 is that of record i of the rest
  next-question : (i : ℕ)
      → question_at f p before bytes (suc i)
      ≡ question_at f p (before ++ operation_in bytes ∷ []) (drop (record_size f) bytes) i
  unfolding operations_in
  next-question i = rw (append_assoc, drop-records f i bytes)

  -- record j of the rest is record j + 1, once the first record passes
  module _ (left q j : ℕ) where
    first-later : record_question f p before bytes ≡ 0
        → FirstRefused f p (before ++ operation_in bytes ∷ []) left (drop (record_size f) bytes) q j
        → FirstRefused f p before (suc left) bytes q (suc j)
    first-later z r =
        record {
          below = omega (arith, r.below);
          passes = pass;
          asked = next-question j ∙ r.asked;
          some = r.some;
        }
      where
        pass : (i : ℕ) → i < suc j → question_at f p before bytes i ≡ 0
        pass zero h = first-question ∙ z
        pass (suc i) h = next-question i ∙ r.passes i (omega arith)

    first_rest : FirstRefused f p before (suc left) bytes q (suc j)
        → FirstRefused f p (before ++ operation_in bytes ∷ []) left (drop (record_size f) bytes) q j
    first_rest r =
        record {
          below = omega (arith, r.below);
          passes = λ i h. sym (next-question i) ∙ r.passes (suc i) (omega arith);
          asked = sym (next-question j) ∙ r.asked;
          some = r.some;
        }

-- ---- the records

-- the place is the number of the first refused record: the operations before it have the numbers before it
pub record RefusedAt (f : Form) (p : ℕ) (before : List Operation) (left : ℕ) (bytes : List ℕ) (q k : ℕ) : Type 0 where
  pub which : ℕ
  pub place : k ≡ length before + which
  pub first : FirstRefused f p before left bytes q which

length-next : (before : List Operation) (o : Operation) (j : ℕ) → length (before ++ o ∷ []) + j ≡ length before + suc j
length-next before o j = simp length-append (omega arith)

module _ (f : Form) (p : ℕ) where
  records-refused : (left : ℕ) (before : List Operation) (bytes : List ℕ) (q k : ℕ)
      → reading_from f p before left bytes ≡ refused q k → RefusedAt f p before left bytes q k
  unfolding reading_from
  records-refused zero before bytes q k e = absurd (let z : ◌≡◌ {A = ℕ} 0 1 = cc in omega arith)
  records-refused (suc left) before bytes q k e = go (eqb asked 0) refl (records-refused left next rest q k)
    where
      asked : ℕ
      asked = record_question f p before bytes

      next : List Operation
      next = before ++ operation_in bytes ∷ []

      rest : List ℕ
      rest = drop (record_size f) bytes

      go : (b : Bool) → eqb asked 0 ≡ b
          → (reading_from f p next left rest ≡ refused q k → RefusedAt f p next left rest q k)
          → RefusedAt f p before (suc left) bytes q k
      go true d h =
          let r = h (rw d at e) in
          record {
            which = suc r.which;
            place = r.place ∙ length-next before (operation_in bytes) r.which;
            first = first-later f p before bytes left q r.which (eqb-true asked 0 d) r.first;
          }
      go false d h =
          let here : refused asked (length before) ≡ refused q k = rw d at e in
          let number : asked ≡ q = cc in
          let place : length before ≡ k = cc in
          let some : (asked ≡ 0 → ⊥) = eqb-false asked 0 d in
          record {
            which = 0;
            place = omega arith;
            first = record {
              below = omega arith;
              passes = λ i l. absurd (omega arith);
              asked = first-question f p before bytes ∙ number;
              some = λ z. some (number ∙ z);
            };
          }

  refused-records : (left : ℕ) (before : List Operation) (bytes : List ℕ) (q j : ℕ)
      → FirstRefused f p before left bytes q j → reading_from f p before left bytes ≡ refused q (length before + j)
  unfolding reading_from
  refused-records zero before bytes q j r = absurd (omega (arith, r.below))
  refused-records (suc left) before bytes q zero r =
      let asked : record_question f p before bytes ≡ q = sym (first-question f p before bytes) ∙ r.asked in
      simp (asked, ne_eqb q 0 r.some, add-zero)
  refused-records (suc left) before bytes q (suc j) r =
      let passes = sym (first-question f p before bytes) ∙ r.passes 0 (omega arith) in
      let next = before ++ operation_in bytes ∷ [] in
      let rest = first_rest f p before bytes left q j r in
      simp (eq-eqb _ _ passes)
      (rw length-next at (refused-records left next (drop (record_size f) bytes) q j rest))

-- ---- the file

module _ (f : Form) (bytes : List ℕ) (q k : ℕ) where
  same-question : (i : ℕ)
      → question_at f (operation_in bytes).worker [] (drop (record_size f) bytes) i ≡ record_question_at f bytes i
  same-question i = rw (drop-drop (record_size f * i) (record_size f) bytes)

  refused-forth : reading f bytes ≡ refused q k → RefusedFirst f bytes q k
  unfolding reading
  refused-forth e = go (eqb asked 0) refl
    where
      asked : ℕ
      asked = header_question f bytes

      go : (b : Bool) → eqb asked 0 ≡ b → RefusedFirst f bytes q k
      go true d =
          let header = operation_in bytes in
          let r = records-refused f header.worker header.number [] (drop (record_size f) bytes) q k (rw d at e) in
          let place : k ≡ r.which = omega (arith, r.place) in
          rw place
          (by_record (eqb-true asked 0 d) r.first.below
          (λ i h. sym (same-question i) ∙ r.first.passes i h)
          (sym (same-question r.which) ∙ r.first.asked)
          r.first.some)
      go false d =
          let here : refused asked 0 ≡ refused q k = rw d at e in
          let number : asked ≡ q = cc in
          by_header number (λ z. eqb-false asked 0 d (number ∙ z)) (cc)

  refused-back : RefusedFirst f bytes q k → reading f bytes ≡ refused q k
  unfolding reading
  refused-back (by_header asked some place) = simp (asked, ne_eqb q 0 some, place)
  refused-back (by_record passes below each asked some) =
      let header = operation_in bytes in
      let refuses = refused-records f header.worker header.number [] (drop (record_size f) bytes) q k in
      simp (eq-eqb _ _ passes)
      (rw zero-add at
      (refuses
      (record {
        below = below;
        passes = λ i h. same-question i ∙ each i h;
        asked = same-question k ∙ asked;
        some = some;
      })))

-- A file is refused, with number q and place k, exactly if the first "no" is question q's: of the header, with place
-- 0, or of record k, where the header and the records before it pass.
pub refused-means : (f : Form) (bytes : List ℕ) (q k : ℕ) → (reading f bytes ≡ refused q k) ↔ RefusedFirst f bytes q k
refused-means f bytes q k = (refused-forth f bytes q k, refused-back f bytes q k)
