-- A file that is longer than any that reads as a trace: the header alone decides, so that its first k bytes get the
-- same refusal, if k is more than such a file has. Over any form. In order: the bytes of the header; the questions of
-- the header; the file.
use mathlib.Core.Bool.{Bool, true, false}
use mathlib.Core.List.{List, [], ◌∷◌}
use mathlib.Core.Path.{◌≡◌, refl, sym, ◌∙◌}
use native.Mathlib.Nat.{mul-le-mul, le_refl}
use native.Mathlib.Omega.{arith}
use Prim.Native.Nat.{ℕ, ◌<◌, ◌≤◌}
use lib.ListN.{length, take}
use lib.Seq.{get_or-take, length-take-le}
use borrow.Author.Tests.{le-leb, leb-true, ne_eqb}
use Rattle.trace.specs.Form.{Form, base, record_size, start}
use Rattle.trace.specs.Questions.{operation_in, marked, ranked, ask, first_no, is_header, count_fits, is_whole}
use Rattle.trace.specs.Questions.{header_question}
use Rattle.trace.specs.Reading.{refused, reading, file_reading}
use Rattle.trace.proofs.Answered.{header-answered}
use Rattle.trace.proofs.LittleEndian.{value-take}

module _ (f : Form) {k : ℕ} (l : start f 1024 < k) where
  -- a file of at least k bytes has no size that question 4 asks for
  too_long : {n : ℕ} → n ≤ 1024 → (file : List ℕ) → k ≤ length file → length file ≡ start f n → ⊥
  too_long {n} few file m e = omega (arith, l, m, e, mul-le-mul (le_refl (record_size f)) few)

  -- the first "no" of questions 3 and 4; 0 where there is none
  abbrev length_no : ℕ → List ℕ → ℕ
  length_no n file = first_no (ask 3 (count_fits n) ∷ ask 4 (is_whole f n file) ∷ [])

  module _ (bytes : List ℕ) (m : k ≤ length bytes) where
    size : length (take k bytes) ≡ k
    size = length-take-le k bytes m

    -- ---- the bytes of the header

    operation-cut : operation_in (take k bytes) ≡ operation_in bytes
    unfolding operation_in
    operation-cut = rw (
      get_or-take k bytes 2 0 (omega (arith, l)),
      get_or-take k bytes 3 0 (omega (arith, l)),
      value-take 4 4 k bytes (omega (arith, l)),
      value-take 2 8 k bytes (omega (arith, l)),
    )

    -- question 1
    header-cut : is_header f (take k bytes) ≡ is_header f bytes
    unfolding is_header marked ranked
    header-cut = rw (
      le-leb (record_size f) (length (take k bytes)) (omega (arith, l, size)),
      le-leb (record_size f) (length bytes) (omega (arith, l, m)),
      get_or-take k bytes 0 0 (omega (arith, l)),
      get_or-take k bytes 1 0 (omega (arith, l)),
      operation-cut,
      value-take f.rank_width 10 k bytes (omega (arith, l)),
    )

    -- ---- the questions of the header

    -- for no operation count that fits is either file as long as question 4 asks
    count_cut : (n : ℕ) → length_no n (take k bytes) ≡ length_no n bytes
    count_cut n = go (count_fits n) refl
      where
        go : (b : Bool) → count_fits n ≡ b → length_no n (take k bytes) ≡ length_no n bytes
        go true e =
            let few = leb-true n 1024 e in
            rw (
              ne_eqb (length (take k bytes)) (start f n) (too_long few (take k bytes) (omega (arith, size))),
              ne_eqb (length bytes) (start f n) (too_long few bytes m),
            )
        go false e = rw e

    question-cut : header_question f (take k bytes) ≡ header_question f bytes
    unfolding header_question
    question-cut = rw (header-cut, operation-cut, count_cut (operation_in bytes).number)

  -- ---- the file

  -- the header is refused
  long-refused : (file : List ℕ) → k ≤ length file → reading f file ≡ refused (header_question f file) 0
  unfolding reading
  long-refused file m = rw (ne_eqb (header_question f file) 0 some)
    where
      some : header_question f file ≡ 0 → ⊥
      some e = let h = header-answered f file e in too_long h.few file m h.whole

  pub reading-cut : (bytes : List ℕ) → k ≤ length bytes → reading f (take k bytes) ≡ reading f bytes
  reading-cut bytes m =
      long-refused (take k bytes) (omega (arith, size bytes m))
      ∙ rw (question-cut bytes m) (sym (long-refused bytes m))

-- in document 01's form
pub file-cut : {k : ℕ} → start base 1024 < k → (bytes : List ℕ) → k ≤ length bytes
    → file_reading (take k bytes) ≡ file_reading bytes
unfolding file_reading
file-cut l bytes m = reading-cut base l bytes m
