-- `runs_if_unordered` meets its contract. Assumes nothing.
use mathlib.Core.Logic.{inl}
use mathlib.Core.Path.{sym, ◌∙◌}
use Rattle.pair_order.proofs.Answers.{accepted-pair}
use Rattle.two_runs.proofs.Answers.{pair-unordered, call-ordered}
use Rattle.two_runs.proofs.Found.{run-found}
use Rattle.two_runs.proofs.runs_if_unordered.Goals as goal

pub returns-then-must_precede : goal.returns-then-must_precede
returns-then-must_precede c =
    let (accepted, y, e, f) = c.requires in
    call-ordered _ _ _ _ _ (accepted-pair accepted c.args.x.now.trace.holds _ _ y)
    (inl (sym c.must_precede.ensures ∙ c.if-must_precede.true))

pub runs_if_room-requires : goal.runs_if_room-requires
runs_if_room-requires c =
    let (accepted, y, e, f) = c.requires in
    let h = c.args.x.now.trace.holds in
    record {
      unordered = pair-unordered (accepted-pair accepted h _ _ y)
          (sym c.must_precede.ensures ∙ c.if-must_precede.false) e;
      workers = _;
      holds = h;
      b_late = f;
      a_late = run-found accepted h c.find_run-end.ensures;
    }
