-- The runs before they are written to the buffers. In order: what the writer of a run asks; a run found; both.
use mathlib.Core.List.{List, ◌++◌}
use mathlib.Core.Path.{◌≡◌, ◌∙◌}
use Prim.Native.Nat.{ℕ, ◌<◌, ◌≤◌}
use lib.ListN.{length, take, drop}
use lib.Seq.{length-take-le}
use Rattle.runs.specs.Workers.{earlier}
use Rattle.trace.specs.Premises.{HoldsTrace}
use Rattle.trace.specs.Reading.{trace_of}
use Rattle.trace.specs.Trace.{worker_of}
use Rattle.model.proofs.HeldBack.{held-back-length}
use Rattle.index.proofs.Lookups.{holds-places}
use Rattle.accept.specs.Acceptance.{AcceptedTrace}
use Rattle.accept.proofs.Questions.{accepted-workers, accepted-run}
use Rattle.lent.specs.Written.{written_over}
use Rattle.pair_order.proofs.Answers.{Readable, readable-opens, readable-left-out}
use Rattle.run_writer.specs.Writing.{Runnable, WritesRun}
use Rattle.two_runs.specs.Premises.{RunFound, BothFound, BothWritten}

-- ---- what the writer of a run asks

pub readable-runnable : {bytes : List ℕ} {p n : ℕ} {order starts list ends : List ℕ}
    → Readable bytes p n order starts list ends → {k q prior : ℕ} → k < n → q ≡ worker_of (trace_of bytes) k
    → prior ≡ earlier (worker_of (trace_of bytes)) k → Runnable p order starts list ends q prior
readable-runnable {bytes} {n = n} x {k} l e i =
    record {
      trace = trace_of bytes;
      count = n;
      few = x.holds.few;
      places = holds-places x.holds x.handed.indexed;
      opens = readable-opens x;
      out = k;
      left_out = readable-left-out x l e i;
    }

-- ---- a run holds all n operations

pub run-found : {bytes : List ℕ} {p n : ℕ} → AcceptedTrace bytes (trace_of bytes) → HoldsTrace bytes p n
    → {late : ℕ} {held whole run : List ℕ} → WritesRun (trace_of bytes) late held whole run
    → RunFound (trace_of bytes) n late run
run-found accepted h {late} w =
    let all = held-back-length (accepted-workers accepted) (accepted-run accepted) late ∙ h.count in
    record { room = w.room; front = rw all at w.front }

-- ---- both, copied

-- the first n numbers of a run, copied to the front of a buffer
pub run-copied : {n : ℕ} (run : List ℕ) {part : List ℕ} (buffer : List ℕ) → n ≤ length run → part ≡ take n run
    → part ++ drop n buffer ≡ written_over (take n run) buffer
run-copied {n} run buffer l e = rw (e, length-take-le n run l)

pub both-written : {bytes : List ℕ} {n a b : ℕ} {one other : List ℕ} → BothFound bytes n a b one other
    → {first first-now second second-now : List ℕ} → first-now ≡ written_over (take n one) first
    → second-now ≡ written_over (take n other) second
    → BothWritten (trace_of bytes) a b first first-now second second-now
both-written x e i =
    record {
      first_written = e ∙ rw x.b_late.front;
      second_written = i ∙ rw x.a_late.front;
    }
