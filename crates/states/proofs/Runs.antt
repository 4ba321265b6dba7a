-- The run whose end a state is. In order: nothing done; carried on by a worker's next operation; to the
-- end; with nothing left out.
use mathlib.Core.List.{List, [], ◌∷◌, ◌++◌}
use mathlib.Core.Logic.{◌≢◌}
use native.Mathlib.Omega.{arith}
use Prim.Native.Nat.{ℕ, ◌+◌, ◌<◌}
use lib.ListN.{get_or, set, replicate}
use Rattle.basics.specs.Membership.{◌∉◌}
use Rattle.runs.specs.Rule.{without}
use Rattle.runs.specs.Steps.{Addable, done}
use Rattle.runs.specs.Workers.{Counted}
use Rattle.runs.proofs.Counts.{run-counted}
use Rattle.runs.proofs.Done.{done-append}
use Rattle.runs.proofs.Exchange.{add-run}
use Rattle.runs.proofs.MaximalRuns.{closed-maximal}
use Rattle.runs.proofs.RunSteps.{run-empty}
use Rattle.runs.proofs.RunsWithout.{without-monotone, run-without, maximal-without}
use Rattle.trace.specs.Premises.{Fits}
use Rattle.trace.specs.Trace.{Trace, size, worker_of}
use Rattle.model.specs.Rule.{rule}
use Rattle.model.proofs.RuleLaws.{rule-monotone, rule-in-turn}
use Rattle.index.proofs.Operations.{at-rth}
use Rattle.states.specs.States.{EndsRun, Exhausted, next_of, Free, Blocked, Posted}
use Rattle.states.proofs.Moves.{shows-start, shows_more, next-addable, blocked-closed}

-- ---- nothing done

pub ends-start : (t : Trace) (a : ℕ) → EndsRun t a [] (replicate 16 0) (replicate 4 0)
ends-start t a = record { is_a_run = run-empty; lacks = λ m. elim m [ ]; shows = shows-start t }

module _ {t : Trace} {a : ℕ} {r counts events : List ℕ} (x : EndsRun t a r counts events) where
  pub ends-counted : Counted (worker_of t) (done [] r)
  ends-counted = run-counted (rule-monotone t) (rule-in-turn t) x.is_a_run

  -- ---- a worker's next operation

  module _ {q : ℕ} (low : q < 16) (below : next_of t counts q < size t) (other : next_of t counts q ≢ a)
      (free : Free t events (next_of t counts q)) where
    pub ends-addable : Addable (without (rule t) a) (done [] r) (next_of t counts q)
    ends-addable = next-addable x.shows ends-counted a q below other free

    pub ends_more : {events' : List ℕ} → Posted t (next_of t counts q) events events'
        → EndsRun t a (r ++ next_of t counts q ∷ []) (set counts q (get_or counts q 0 + 1)) events'
    ends_more p =
        let own = (at-rth t q (get_or counts q 0) below).own in
        let longer = run-without.0
        (add-run (without-monotone (rule-monotone t) a) (run-without.1 (x.is_a_run, x.lacks)) ends-addable) in
        record {
          is_a_run = longer.0;
          lacks = longer.1;
          shows = rw (done-append [] r (next_of t counts q ∷ []))
              (rw own at (shows_more x.shows (rw own low) p));
        }

  -- ---- to the end

  pub ends-exhausted : Fits t → ((q : ℕ) → q < t.workers → Blocked t a events (next_of t counts q))
      → Exhausted t a r counts events
  ends-exhausted f blocked =
      record {
        maximal = maximal-without.1
            (closed-maximal (without-monotone (rule-monotone t) a) (run-without.1 (x.is_a_run, x.lacks))
            (blocked-closed x.shows ends-counted a f blocked));
        shows = x.shows;
      }

-- ---- nothing left out

-- any run lacks what is no operation
pub ends-whole : {t : Trace} {a : ℕ} {r counts events : List ℕ} → EndsRun t a r counts events
    → EndsRun t (size t) r counts events
ends-whole {t} {a} {r} x = record { is_a_run = x.is_a_run; lacks = lacks; shows = x.shows }
  where
    lacks : size t ∉ r
    lacks m = omega (arith, x.is_a_run.below m)
