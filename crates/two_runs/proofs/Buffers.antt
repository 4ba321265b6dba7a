-- What is in the buffers after the call. In order: a buffer that a run is written to; after any call, the lengths;
-- after success, both buffers.
use mathlib.Core.List.{List}
use mathlib.Core.Logic.{◌≢◌}
use mathlib.Core.Path.{◌≡◌, sym}
use native.Mathlib.Omega.{arith}
use Prim.Native.Nat.{ℕ, ◌<◌, ◌≤◌}
use lib.ListN.{length, get_or, take, drop}
use lib.Seq.{take_at}
use Rattle.runs.specs.Run.{StandsBefore}
use Rattle.trace.specs.Reading.{Reading}
use Rattle.trace.specs.Trace.{Trace, size}
use Rattle.trace.proofs.Outcomes.{ComesOut}
use Rattle.model.specs.Computed.{held_back_run}
use Rattle.model.specs.Moves.{HeldBackRun}
use Rattle.model.specs.Orders.{MustPrecedeIn}
use Rattle.model.specs.Runs.{CompleteRunOf}
use Rattle.model.proofs.HeldBack.{held-back-run, held-back-complete, held-back-length, held-back-before}
use Rattle.accept.specs.Acceptance.{AcceptedTrace}
use Rattle.accept.proofs.Questions.{accepted-workers, accepted-run}
use Rattle.lent.specs.Written.{written_over}
use Rattle.lent.proofs.Left.{left-length}
use Rattle.lent.proofs.Writing.{written-past}
use Rattle.two_runs.specs.Refusals.{AcceptedRuns, RefusedRuns}
use Rattle.two_runs.specs.Runs.{runs_reading, first_after, second_after}
use Rattle.two_runs.proofs.Answers.{call_by}
use Rattle.two_runs.proofs.Questions.{runs-comes-out}

-- ---- a buffer that a run is written to

-- it held `lent`; its first n numbers are a complete run, by document 01's rule that which holds `late` back, and
-- `early` stands before `late` in it; what lies behind them is as before
pub record StartsWithRun (t : Trace) (early late : ℕ) (lent now : List ℕ) : Type 0 where
  pub by-rule : HeldBackRun t late (take (size t) now)
  pub complete : CompleteRunOf t (take (size t) now)
  pub before : StandsBefore early late (take (size t) now)
  pub past : (i : ℕ) → size t ≤ i → get_or now i 0 ≡ get_or lent i 0

module _ {bytes : List ℕ} {t : Trace} (h : AcceptedTrace bytes t) (late : ℕ) where
  long : length (held_back_run t late) ≡ size t
  long = held-back-length (accepted-workers h) (accepted-run h) late

  starts_with : {early : ℕ} → late < size t → early ≢ late → (MustPrecedeIn t late early → ⊥) → (lent : List ℕ)
      → StartsWithRun t early late lent (written_over (held_back_run t late) lent)
  starts_with l d n lent =
      record {
        by-rule = rw front (held-back-run (accepted-workers h) late);
        complete = rw front (held-back-complete (accepted-workers h) (accepted-run h) late);
        before = rw front (held-back-before (accepted-workers h) (accepted-run h) l d n);
        past = λ i j. written-past (held_back_run t late) lent 0 i (omega (arith, long));
      }
    where
      front : take (size t) (written_over (held_back_run t late) lent) ≡ held_back_run t late
      front =
          let rest = drop (length (held_back_run t late)) lent in
          take_at (held_back_run t late) rest (size t) long

module _ (bytes : List ℕ) (a b : ℕ) (first second : List ℕ) where
  -- ---- after any call

  pub after-lengths : (length (first_after bytes a b first second) ≡ length first)
      × (length (second_after bytes a b first second) ≡ length second)
  unfolding first_after second_after
  after-lengths = (
    left-length (λ t. held_back_run t b) reading out first (λ t r. omega (arith, run_long r b, r.first_holds)),
    left-length (λ t. held_back_run t a) reading out second (λ t r. omega (arith, run_long r a, r.second_holds)),
  )
    where
      reading : Reading
      reading = runs_reading bytes a b (length first) (length second)

      out : ComesOut reading (AcceptedRuns bytes a b (length first) (length second))
          (RefusedRuns bytes a b (length first) (length second))
      out = runs-comes-out bytes a b (length first) (length second)

      run_long : {t : Trace} → AcceptedRuns bytes a b (length first) (length second) t → (late : ℕ)
          → length (held_back_run t late) ≡ size t
      run_long r late = long r.accepted.pair.numbers.accepted late

  -- ---- after success

  module _ {t : Trace} (r : AcceptedRuns bytes a b (length first) (length second) t) where
    pub after_first : StartsWithRun t a b first (first_after bytes a b first second)
    after_first =
        let c = call_by bytes a b first second (((runs-comes-out bytes a b _ _).passes t).1 r) in
        let pair = r.accepted.pair in
        let start = starts_with pair.numbers.accepted b pair.numbers.second_below pair.differ in
        rw (← c.leaves_first) (start r.accepted.unordered.not_after first)

    pub after-second : StartsWithRun t b a second (second_after bytes a b first second)
    after-second =
        let c = call_by bytes a b first second (((runs-comes-out bytes a b _ _).passes t).1 r) in
        let pair = r.accepted.pair in
        let other : b ≢ a = λ e. pair.differ (sym e) in
        let start = starts_with pair.numbers.accepted a pair.numbers.first_below other in
        rw (← c.leaves_second) (start r.accepted.unordered.not_before second)
