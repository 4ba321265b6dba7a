-- `is_header` meets its contract. Assumes nothing.
use mathlib.Core.Bool.{and-true}
use borrow.Author.Tests.{le-leb, lt-leb, eq-eqb, ne_eqb}
use Rattle.trace.specs.Questions.{is_header}
use Rattle.trace.proofs.Answered.{ranked-base}
use Rattle.reader.proofs.is_header.Goals as goal

pub returns-then-file-lt-RECORD_SIZE : goal.returns-then-file-lt-RECORD_SIZE
unfolding is_header
returns-then-file-lt-RECORD_SIZE c = simp (lt-leb _ _ c.if-file-lt-RECORD_SIZE.true)

pub returns-then-header-eq0 : goal.returns-then-header-eq0
unfolding is_header
returns-then-header-eq0 c =
    simp (
      le-leb _ _ c.if-file-lt-RECORD_SIZE.false,
      ← c.is_marked.ensures,
      c.if-is_marked.true,
      ← c.operation_in-header.ensures,
      eq-eqb _ _ c.if-header-eq0.true,
      ranked-base,
      and-true,
    )

pub returns-else-header-eq0 : goal.returns-else-header-eq0
unfolding is_header
returns-else-header-eq0 c =
    simp (
      le-leb _ _ c.if-file-lt-RECORD_SIZE.false,
      ← c.is_marked.ensures,
      c.if-is_marked.true,
      ← c.operation_in-header.ensures,
      ne_eqb _ _ c.if-header-eq0.false,
    )

pub returns : goal.returns
unfolding is_header
returns c = simp (le-leb _ _ c.if-file-lt-RECORD_SIZE.false, ← c.is_marked.ensures, c.if-is_marked.false)
