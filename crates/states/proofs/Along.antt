-- Keeping a walk along one worker, where the trace has a complete run: from the end of the walk without an operation,
-- by that operation, to a state from which the walk without the worker's next one goes on.
use mathlib.Core.List.{List, [], ◌∷◌, ◌++◌}
use mathlib.Core.Path.{◌≡◌, ◌∙◌}
use native.Mathlib.Omega.{arith}
use Prim.Native.Nat.{ℕ, ◌+◌, ◌<◌}
use lib.ListN.{get_or, set}
use Rattle.basics.specs.Membership.{◌∉◌}
use Rattle.basics.proofs.Booleans.{and_right, test-true}
use Rattle.basics.proofs.Members.{lacks-snoc}
use Rattle.runs.specs.Run.{Run}
use Rattle.runs.specs.Steps.{done}
use Rattle.runs.specs.Workers.{turn, earlier}
use Rattle.runs.proofs.Before.{before-first}
use Rattle.runs.proofs.Done.{done-append}
use Rattle.runs.proofs.Exchange.{exchange, run-added}
use Rattle.runs.proofs.Rows.{row-own}
use Rattle.trace.specs.Premises.{Fits}
use Rattle.trace.specs.Trace.{Trace, size, worker_of}
use Rattle.model.specs.Rule.{rule, unblocked}
use Rattle.model.specs.Runs.{CompleteRunOf}
use Rattle.model.proofs.RuleLaws.{rule-monotone, rule-in-turn, unblocked-needs}
use Rattle.model.proofs.TraceRuns.{run-means, complete-means}
use Rattle.states.specs.States.{Shows, EndsRun, Exhausted, Free, Posted}
use Rattle.states.proofs.Ends.{run-count}
use Rattle.states.proofs.Moves.{shows_more}

module _ {t : Trace} (f : Fits t) {a : ℕ} {r counts events : List ℕ} (x : Exhausted t a r counts events) {c : List ℕ}
    (complete : CompleteRunOf t c) (below : a < size t) where
  -- the operation can be added, since something can, and nothing else
  longer : Run (rule t) (r ++ a ∷ [])
  longer =
      let whole = (complete-means t).1 complete in
      let y = exchange (rule-monotone t) x.maximal.is_a_run whole.is_a_run (whole.holds a below)
      x.maximal.lacks in
      rw (x.maximal.maximal y.0 y.2) at y.2

  -- its worker has done its earlier operations
  pub own-count : get_or counts (worker_of t a) 0 ≡ earlier (worker_of t) a
  own-count =
      run-count x.maximal.is_a_run x.shows (worker_of t a)
      ∙ row-own (rule-monotone t) (rule-in-turn t) ((complete-means t).1 complete) below x.maximal

  -- what it needs is posted
  pub own-free : Free t events a
  own-free =
      let can = run-added (rule-monotone t) r a longer in
      let ready = and_right (turn (worker_of t) (done [] r) a) (unblocked t (done [] r) a) can.allowed in
      record {
        each = λ e n. x.shows.set e ∙ (test-true _).1 ((unblocked-needs t (done [] r) a).0 ready e ((test-true _).0 n));
      }

  -- and the run with it lacks the worker's later operations
  pub own-ends : {b : ℕ} → worker_of t a ≡ worker_of t b → a < b → {events' : List ℕ} → Posted t a events events'
      → EndsRun t b (r ++ a ∷ []) (set counts (worker_of t a) (get_or counts (worker_of t a) 0 + 1)) events'
  own-ends {b} e l {events'} p = record { is_a_run = longer; lacks = lacks; shows = shows }
    where
      later : b ∉ r
      later m =
          let before = ((run-means t).0 x.maximal.is_a_run).earlier_before m
          (record { same_worker = e; lower = l }) in
          x.maximal.lacks (before-first before)

      lacks : b ∉ r ++ a ∷ []
      lacks = lacks-snoc later (λ z. omega (arith, z, l))

      shows : Shows t (done [] (r ++ a ∷ [])) (set counts (worker_of t a) (get_or counts (worker_of t a) 0 + 1)) events'
      shows =
          rw (done-append [] r (a ∷ []))
          (shows_more x.shows (omega (arith, (f.each a below).worker, f.most)) p)
