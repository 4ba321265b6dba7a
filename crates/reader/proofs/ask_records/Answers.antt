-- `ask_records` meets its contract. The invariant: what reading the file gives is what the records from k on give.
-- Assumes nothing.
use mathlib.Core.List.{[]}
use mathlib.Core.Path.{◌≡◌, refl, ◌∙◌, sym, ap}
use native.Mathlib.Omega.{arith}
use Rattle.trace.specs.Form.{base}
use Rattle.trace.specs.Reading.{reads, file_reading}
use Rattle.trace.proofs.Answers.{trace-reads}
use Rattle.reader.proofs.ReaderSteps.{records-start, records-end, header-few, header-inside}
use Rattle.reader.proofs.ReaderSteps.{record-passes, record-refuses, refuses-some, refuses-none}
use Rattle.reader.proofs.ask_records.Goals as goal

pub loop-k-init : goal.loop-k-init
unfolding file_reading
loop-k-init c = records-start base _ _ _ c.requires

pub record_start-at-requires : goal.record_start-at-requires
record_start-at-requires c = omega (arith, header-few base _ _ _ c.requires)

pub record_question-requires : goal.record_question-requires
record_question-requires c =
    header-inside base _ _ _ c.requires _ _ c.loop-k-test.true c.record_start-at.ensures

pub returns-in-Some : goal.returns-in-Some
returns-in-Some c =
    let here = record-refuses base _ _ _ c.requires _ _ _ c.loop-k-test.true c.record_start-at.ensures in
    c.loop-k.invariant
    ∙ here (λ before. (refuses-some (c.in-Some.ensures before)).0) (refuses-some (c.in-Some.ensures [])).1

pub loop-k-preserved : goal.loop-k-preserved
loop-k-preserved c =
    let here = record-passes base _ _ _ c.requires _ _ 0 c.loop-k-test.true c.record_start-at.ensures in
    c.loop-k.invariant ∙ here (λ before. sym (refuses-none (c.in_default.ensures before))) refl

pub returns : goal.returns
returns c =
    let all : c.loop-k.k ≡ c.args.n = omega arith in
    let e = rw all at c.loop-k.invariant ∙ records-end base _ _ _ c.requires in
    e ∙ ap reads (sym (trace-reads c.args.file.now _ e))
