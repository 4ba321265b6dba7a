-- `header_question` meets its contract: the code's answer to each question is the question's, and where that is yes, the
-- questions after it decide. Assumes nothing.
use mathlib.Core.Bool.{Bool, true}
use mathlib.Core.List.{List}
use mathlib.Core.Path.{◌≡◌, sym, ap, ◌∙◌}
use Prim.Native.Nat.{ℕ}
use lib.ListN.{drop}
use borrow.Author.Tests.{leb-true}
use Rattle.trace.specs.declared.Operation.{Operation}
use Rattle.trace.specs.Form.{base}
use Rattle.trace.specs.Questions.{Question, operation_in, first_no, is_header, workers_fit, count_fits, is_whole}
use Rattle.trace.specs.Questions.{header_questions, header_question}
use Rattle.trace.proofs.Answered.{first-no, first_next, header-long}
use Rattle.reader.specs.Answer.{refusing}
use Rattle.reader.proofs.header_question.Goals as goal

-- what the code answered of the header that it read is the question's answer of the file
answer-of : (f : Operation → Bool) {o x : Operation} {r b : Bool} → o ≡ x → r ≡ f o → r ≡ b → f x ≡ b
answer-of f e h k = rw (← e) (sym h ∙ k)

-- ---- yes: the questions after it decide

module _ (file : List ℕ) where
  -- the file's questions from the i-th on
  abbrev from : ℕ → List Question
  from i = drop i (header_questions base file)

  abbrev workers : Bool
  workers = workers_fit (operation_in file).worker

  abbrev counts : Bool
  counts = count_fits (operation_in file).number

  after-1 : is_header base file ≡ true → header_question base file ≡ first_no (from 1)
  unfolding header_question
  after-1 h = first_next _ 1 (from 1) h

  after-2 : is_header base file ≡ true → workers ≡ true → header_question base file ≡ first_no (from 2)
  after-2 h w = after-1 h ∙ first_next _ 2 (from 2) w

  after-3 : is_header base file ≡ true → workers ≡ true → counts ≡ true
      → header_question base file ≡ first_no (from 3)
  after-3 h w n = after-2 h w ∙ first_next _ 3 (from 3) n

  after-4 : is_header base file ≡ true → workers ≡ true → counts ≡ true
      → is_whole base (operation_in file).number file ≡ true → header_question base file ≡ 0
  after-4 h w n l = after-3 h w n ∙ first_next _ 4 (from 4) l

-- ---- the goals

abbrev worker_test : Operation → Bool
worker_test o = workers_fit o.worker

abbrev count_test : Operation → Bool
count_test o = count_fits o.number

pub returns-then-not-is_header : goal.returns-then-not-is_header
unfolding header_question
returns-then-not-is_header c =
    ap refusing (sym (first-no _ 1 (from c.args.file.now 1) (sym c.is_header.ensures ∙ c.if-not-is_header.true)))

pub operation_in-header-requires : goal.operation_in-header-requires
operation_in-header-requires c = header-long _ _ (sym c.is_header.ensures ∙ c.if-not-is_header.false)

pub returns-then-not-workers_fit : goal.returns-then-not-workers_fit
returns-then-not-workers_fit c =
    let file = c.args.file.now in
    let e = c.operation_in-header.ensures in
    let w = answer-of worker_test e c.workers_fit.ensures c.if-not-workers_fit.true in
    ap refusing
    (sym
    (after-1 file (sym c.is_header.ensures ∙ c.if-not-is_header.false)
    ∙ first-no _ 2 (from file 2) w))

pub returns-then-not-count_fits : goal.returns-then-not-count_fits
returns-then-not-count_fits c =
    let file = c.args.file.now in
    let e = c.operation_in-header.ensures in
    let w = answer-of worker_test e c.workers_fit.ensures c.if-not-workers_fit.false in
    let n = answer-of count_test e c.count_fits.ensures c.if-not-count_fits.true in
    ap refusing
    (sym
    (after-2 file (sym c.is_header.ensures ∙ c.if-not-is_header.false) w
    ∙ first-no _ 3 (from file 3) n))

pub returns-then-not-is_whole : goal.returns-then-not-is_whole
returns-then-not-is_whole c =
    let file = c.args.file.now in
    let e = c.operation_in-header.ensures in
    let w = answer-of worker_test e c.workers_fit.ensures c.if-not-workers_fit.false in
    let n = answer-of count_test e c.count_fits.ensures c.if-not-count_fits.false in
    let l =
    answer-of (λ (o : Operation). is_whole base o.number file) e c.is_whole.ensures c.if-not-is_whole.true in
    ap refusing
    (sym
    (after-3 file (sym c.is_header.ensures ∙ c.if-not-is_header.false) w n
    ∙ first-no _ 4 (from file 4) l))

pub returns : goal.returns
returns c =
    let file = c.args.file.now in
    let e = c.operation_in-header.ensures in
    let w = answer-of worker_test e c.workers_fit.ensures c.if-not-workers_fit.false in
    let n = answer-of count_test e c.count_fits.ensures c.if-not-count_fits.false in
    let l =
    answer-of (λ (o : Operation). is_whole base o.number file) e c.is_whole.ensures c.if-not-is_whole.false in
    ap refusing (sym (after-4 file (sym c.is_header.ensures ∙ c.if-not-is_header.false) w n l))
