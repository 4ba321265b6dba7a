-- Which numbers and places a refusal has, for files of document 01's form. In order: the first "no" of a list of
-- questions; the header; a record; the file. Which refusal a file gets is in FirstNo.
use mathlib.Core.Bool.{Bool, true, false, cond}
use mathlib.Core.List.Memᴰ
use mathlib.Core.List.{List, [], ◌∷◌, ◌++◌, map}
use mathlib.Core.Logic.{◌⊎◌, inl, inr, ◌↔◌}
use mathlib.Core.Path.{◌≡◌, refl, ◌∙◌}
use lib.ListN.{drop}
use Prim.Native.Nat.{ℕ, ◌<◌}
use Rattle.basics.specs.Membership.{◌∈◌}
use Rattle.basics.proofs.Members.{here, there}
use Rattle.trace.specs.declared.Operation.{Operation}
use Rattle.trace.specs.Form.{base, record_size, start}
use Rattle.trace.specs.Questions.{Question, operation_in, ask, first_no, header_questions, header_question, marked}
use Rattle.trace.specs.Questions.{operation_questions, record_question}
use Rattle.trace.specs.Reading.{refused, file_reading}
use Rattle.trace.specs.Refusals.{operations_in, RefusedFirst, by_header, by_record, FileRefusedFirst}
use Rattle.trace.specs.Refusals.{header_numbers, record_numbers, reading_numbers}
use Rattle.trace.specs.Trace.{rank_after}
use Rattle.trace.proofs.Answered.{ranked-base}
use Rattle.trace.proofs.FirstNo.{refused-means}

-- ---- the first "no"

abbrev numbers_of : List Question → List ℕ
numbers_of qs = map (λ (q : Question). q.number) qs

-- it is that of one of the questions
first-no-number : (qs : List Question) → (first_no qs ≡ 0 → ⊥) → first_no qs ∈ numbers_of qs
first-no-number [] some = absurd (some refl)
first-no-number (q ∷ rest) some = go q.yes (first-no-number rest) some
  where
    go : (b : Bool) → ((first_no rest ≡ 0 → ⊥) → first_no rest ∈ numbers_of rest)
        → (cond b (first_no rest) q.number ≡ 0 → ⊥) → cond b (first_no rest) q.number ∈ q.number ∷ numbers_of rest
    go true f n = there (f n)
    go false f n = here

-- a last question that is answered yes changes nothing
first-no-last : (qs : List Question) (k : ℕ) → first_no (qs ++ ask k true ∷ []) ≡ first_no qs
first-no-last [] k = refl
first-no-last (q ∷ rest) k = rw (first-no-last rest k)

-- ---- the header, and a record

header-number : (bytes : List ℕ) → (header_question base bytes ≡ 0 → ⊥) → header_question base bytes ∈ header_numbers
unfolding header_question
header-number bytes some = first-no-number (header_questions base bytes) some

-- document 01's form has no rank: 23 is answered yes
record-number : (p : ℕ) (before : List Operation) (bytes : List ℕ) → (record_question base p before bytes ≡ 0 → ⊥)
    → record_question base p before bytes ∈ record_numbers
unfolding record_question
record-number p before bytes some =
    let o = operation_in bytes in
    let asked = ask 5 (marked base bytes) ∷ operation_questions p o in
    let unranked : record_question base p before bytes ≡ first_no asked
    = rw (ranked-base (rank_after before o) bytes) (first-no-last asked 23) in
    rw unranked (first-no-number asked (λ z. some (unranked ∙ z)))

-- ---- the file

-- a file is refused by the first "no", and only so
pub file-refused-first : (bytes : List ℕ) (q k : ℕ) → (file_reading bytes ≡ refused q k) ↔ FileRefusedFirst bytes q k
unfolding file_reading FileRefusedFirst
file-refused-first bytes q k = refused-means base bytes q k

-- by a number of the header's, with place 0, or by one of a record's, with the number of an operation
pub file-refused : (bytes : List ℕ) (q k : ℕ) → FileRefusedFirst bytes q k
    → ((q ∈ header_numbers) × (k ≡ 0)) ⊎ ((q ∈ record_numbers) × (k < (operation_in bytes).number))
unfolding FileRefusedFirst
file-refused bytes q k r = go r
  where
    go : RefusedFirst base bytes q k
        → ((q ∈ header_numbers) × (k ≡ 0)) ⊎ ((q ∈ record_numbers) × (k < (operation_in bytes).number))
    go (by_header asked some place) = inl (rw asked at (header-number bytes (λ z. some (rw asked at z))), place)
    go (by_record passes below each asked some) =
        let rest = drop (record_size base) bytes in
        let here = drop (start base k) bytes in
        let number = record-number (operation_in bytes).worker (operations_in base k rest) here in
        inr (rw asked at (number (λ z. some (rw asked at z))), below)

-- so its number is one of those
pub reading-number : (bytes : List ℕ) (q k : ℕ) → FileRefusedFirst bytes q k → q ∈ reading_numbers
reading-number bytes q k r = elim (file-refused bytes q k r) [
  | inl h ↦ Memᴰ.append_left record_numbers h.0
  | inr h ↦ Memᴰ.append_right header_numbers h.0
]
