-- `runs_if_room` meets its contract. Assumes nothing.
use mathlib.Core.Logic.{inl, inr}
use native.Mathlib.Omega.{arith}
use Rattle.two_runs.proofs.Answers.{call-short, call-runs}
use Rattle.two_runs.proofs.Found.{both-written, run-copied}
use Rattle.two_runs.proofs.runs_if_room.Goals as goal

pub returns-then-first-n : goal.returns-then-first-n
returns-then-first-n c =
    let x = c.requires in
    call-short _ _ _ _ _ x.unordered x.holds (inl c.if-first-n.true)

pub returns-then-second-n : goal.returns-then-second-n
returns-then-second-n c =
    let x = c.requires in
    call-short _ _ _ _ _ x.unordered x.holds (inr c.if-second-n.true)

pub returns : goal.returns
returns c =
    let x = c.requires in
    let one = run-copied _ c.args.first.now (omega (arith, x.holds.few, x.b_late.room)) c.copy_from_slice.ensures.after in
    let other = run-copied _ c.args.second.now (omega (arith, x.holds.few, x.a_late.room)) c.copy_from_slice-2.ensures.after in
    call-runs _ _ _ _ _ x.unordered x.holds c.if-first-n.false c.if-second-n.false (both-written x one other)
