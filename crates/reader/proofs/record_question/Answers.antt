-- `record_question` meets its contract: the code's answer to each question is the question's, and where that is yes, the
-- questions after it decide. Assumes nothing.
use mathlib.Core.Bool.{Bool, true}
use mathlib.Core.List.{List}
use mathlib.Core.Path.{◌≡◌, sym, ap, ◌∙◌}
use Prim.Native.Nat.{ℕ}
use lib.ListN.{drop}
use borrow.Author.Tests.{eqb-true}
use Rattle.trace.specs.declared.Operation.{Operation}
use Rattle.trace.specs.Form.{base}
use Rattle.trace.specs.Questions.{Question, operation_in, first_no, marked, worker_known, kind_known, event_fits}
use Rattle.trace.specs.Questions.{cells_fit, record_questions, record_question}
use Rattle.trace.proofs.Answered.{first-no, first_next, ranked-base}
use Rattle.reader.specs.Answer.{refusing}
use Rattle.reader.proofs.record_question.Goals as goal

-- what the code answered of the operation that it read is the question's answer of the record
answer-of : (f : Operation → Bool) {o x : Operation} {r b : Bool} → o ≡ x → r ≡ f o → r ≡ b → f x ≡ b
answer-of f e h k = rw (← e) (sym h ∙ k)

-- ---- yes: the questions after it decide

module _ (bytes : List ℕ) (p : ℕ) (before : List Operation) where
  -- the record's questions from the i-th on
  abbrev from : ℕ → List Question
  from i = drop i (record_questions base p before bytes)

  abbrev asked : ℕ
  asked = record_question base p before bytes

  abbrev o : Operation
  o = operation_in bytes

  after-5 : marked base bytes ≡ true → asked ≡ first_no (from 1)
  unfolding record_question
  after-5 m = first_next _ 5 (from 1) m

  after-6 : marked base bytes ≡ true → worker_known p o ≡ true → asked ≡ first_no (from 2)
  after-6 m w = after-5 m ∙ first_next _ 6 (from 2) w

  after-7 : marked base bytes ≡ true → worker_known p o ≡ true → kind_known o ≡ true → asked ≡ first_no (from 3)
  after-7 m w k = after-6 m w ∙ first_next _ 7 (from 3) k

  after-8 : marked base bytes ≡ true → worker_known p o ≡ true → kind_known o ≡ true → event_fits o ≡ true
      → asked ≡ first_no (from 4)
  after-8 m w k e = after-7 m w k ∙ first_next _ 8 (from 4) e

  after-9 : marked base bytes ≡ true → worker_known p o ≡ true → kind_known o ≡ true → event_fits o ≡ true
      → cells_fit o ≡ true → asked ≡ first_no (from 5)
  after-9 m w k e c = after-8 m w k e ∙ first_next _ 9 (from 5) c

-- ---- the goals

pub returns-then-record_passes : goal.returns-then-record_passes
returns-then-record_passes c = λ before.
    ap refusing (sym (eqb-true _ 0 (sym (c.record_passes.ensures before) ∙ c.if-record_passes.true)))

pub returns-then-not-is_marked : goal.returns-then-not-is_marked
unfolding record_question
returns-then-not-is_marked c = λ before.
    let bytes = drop c.args.at c.args.file.now in
    ap refusing (sym (first-no _ 5 (from bytes c.args.p before 1) (sym c.is_marked.ensures ∙ c.if-not-is_marked.true)))

pub returns-then-not-worker_known : goal.returns-then-not-worker_known
returns-then-not-worker_known c = λ before.
    let bytes = drop c.args.at c.args.file.now in
    let p = c.args.p in
    let e = c.operation_in-o.ensures in
    let w = answer-of (worker_known p) e c.worker_known.ensures c.if-not-worker_known.true in
    ap refusing
    (sym
    (after-5 bytes p before (sym c.is_marked.ensures ∙ c.if-not-is_marked.false)
    ∙ first-no _ 6 (from bytes p before 2) w))

pub returns-then-not-kind_known : goal.returns-then-not-kind_known
returns-then-not-kind_known c = λ before.
    let bytes = drop c.args.at c.args.file.now in
    let p = c.args.p in
    let e = c.operation_in-o.ensures in
    let w = answer-of (worker_known p) e c.worker_known.ensures c.if-not-worker_known.false in
    let k = answer-of kind_known e c.kind_known.ensures c.if-not-kind_known.true in
    ap refusing
    (sym
    (after-6 bytes p before (sym c.is_marked.ensures ∙ c.if-not-is_marked.false) w
    ∙ first-no _ 7 (from bytes p before 3) k))

pub returns-then-not-event_fits : goal.returns-then-not-event_fits
returns-then-not-event_fits c = λ before.
    let bytes = drop c.args.at c.args.file.now in
    let p = c.args.p in
    let e = c.operation_in-o.ensures in
    let w = answer-of (worker_known p) e c.worker_known.ensures c.if-not-worker_known.false in
    let k = answer-of kind_known e c.kind_known.ensures c.if-not-kind_known.false in
    let v = answer-of event_fits e c.event_fits.ensures c.if-not-event_fits.true in
    ap refusing
    (sym
    (after-7 bytes p before (sym c.is_marked.ensures ∙ c.if-not-is_marked.false) w k
    ∙ first-no _ 8 (from bytes p before 4) v))

pub returns-then-not-cells_fit : goal.returns-then-not-cells_fit
returns-then-not-cells_fit c = λ before.
    let bytes = drop c.args.at c.args.file.now in
    let p = c.args.p in
    let e = c.operation_in-o.ensures in
    let w = answer-of (worker_known p) e c.worker_known.ensures c.if-not-worker_known.false in
    let k = answer-of kind_known e c.kind_known.ensures c.if-not-kind_known.false in
    let v = answer-of event_fits e c.event_fits.ensures c.if-not-event_fits.false in
    let f = answer-of cells_fit e c.cells_fit.ensures c.if-not-cells_fit.true in
    ap refusing
    (sym
    (after-8 bytes p before (sym c.is_marked.ensures ∙ c.if-not-is_marked.false) w k v
    ∙ first-no _ 9 (from bytes p before 5) f))

pub returns : goal.returns
returns c = λ before.
    let bytes = drop c.args.at c.args.file.now in
    let p = c.args.p in
    let e = c.operation_in-o.ensures in
    let w = answer-of (worker_known p) e c.worker_known.ensures c.if-not-worker_known.false in
    let k = answer-of kind_known e c.kind_known.ensures c.if-not-kind_known.false in
    let v = answer-of event_fits e c.event_fits.ensures c.if-not-event_fits.false in
    let f = answer-of cells_fit e c.cells_fit.ensures c.if-not-cells_fit.false in
    ap refusing
    (sym
    (after-9 bytes p before (sym c.is_marked.ensures ∙ c.if-not-is_marked.false) w k v f
    ∙ first_next _ 23 (from bytes p before 6) (ranked-base _ _)))
