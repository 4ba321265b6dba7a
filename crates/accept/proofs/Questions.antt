-- What acceptance means. In order: accepted files; files that read as a trace: question 10 and its place; which
-- refusals there are. What the answer says is in Answers.
use mathlib.Core.List.Memᴰ
use mathlib.Core.List.{List}
use mathlib.Core.Logic.{inl, inr, ◌↔◌}
use mathlib.Core.Path.{◌≡◌, refl, sym, ◌∙◌}
use Prim.Native.Nat.{ℕ, ◌<◌, ◌≤◌}
use Rattle.basics.specs.Membership.{◌∈◌}
use Rattle.basics.proofs.Booleans.{less?}
use Rattle.trace.specs.Premises.{HoldsTrace}
use Rattle.trace.specs.Reading.{refused, reads, file_reading, trace_of}
use Rattle.trace.specs.Refusals.{RefusedNext, by_earlier, by_this, reading_numbers, file_numbers}
use Rattle.trace.specs.Trace.{Trace, size}
use Rattle.trace.proofs.Answers.{trace-reads, file-holds}
use Rattle.trace.proofs.Outcomes.{refused-reads, ComesOut, asks-at-most, ask-next}
use Rattle.trace.proofs.Refusals.{file-refused-first, reading-number}
use Rattle.model.specs.Computed.{largest_run, first_outside}
use Rattle.model.specs.LargestRuns.{LowestOutside}
use Rattle.model.specs.Rule.{WorkersKnown}
use Rattle.model.specs.Runs.{CompleteRunOf, NoCompleteRun}
use Rattle.model.proofs.RuleLaws.{holds-workers}
use Rattle.model.proofs.Outside.{outside-place, none-outside, complete-largest}
use Rattle.accept.specs.Acceptance.{acceptance, AcceptedTrace}
use Rattle.accept.specs.Refusals.{RefusedFile, by_reading, by_runs}

-- ---- accepted files

-- the file's questions: 10 asks whether no operation is outside the largest run
asked : (bytes : List ℕ)
    → ComesOut
    (acceptance bytes)
    (λ t. (file_reading bytes ≡ reads t) × (size t ≤ first_outside t))
    (RefusedNext (λ q k. file_reading bytes ≡ refused q k) (λ t. file_reading bytes ≡ reads t) 10
    (λ t. first_outside t < size t)
    first_outside)
unfolding acceptance
asked bytes =
    ask-next 10 first_outside (asks-at-most size first_outside)
    (record { passes = λ t. (λ e. e, λ e. e); refuses = λ q k. (λ e. e, λ e. e) })

-- it reads as the trace, and no operation is outside the largest run
passed : {bytes : List ℕ} {t : Trace} → AcceptedTrace bytes t
    → (file_reading bytes ≡ reads t) × (size t ≤ first_outside t)
passed {bytes} {t} a = ((asked bytes).passes t).0 a.passes

pub accepted-reads : {bytes : List ℕ} {t : Trace} → AcceptedTrace bytes t → file_reading bytes ≡ reads t
accepted-reads a = (passed a).0

pub accepted-trace : {bytes : List ℕ} {t : Trace} → AcceptedTrace bytes t → trace_of bytes ≡ t
accepted-trace {bytes} {t} a = trace-reads bytes t (accepted-reads a)

-- an accepted file has one trace
pub accepted-same : {bytes : List ℕ} {t u : Trace} → AcceptedTrace bytes t → AcceptedTrace bytes u → t ≡ u
accepted-same a b = sym (accepted-trace a) ∙ accepted-trace b

pub accepted-holds : {bytes : List ℕ} {t : Trace} → AcceptedTrace bytes t → HoldsTrace bytes t.workers (size t)
accepted-holds {bytes} {t} a = file-holds bytes t (accepted-reads a)

-- 1 to 16 workers, at most 1,024 operations
pub accepted-limits : {bytes : List ℕ} {t : Trace} → AcceptedTrace bytes t
    → (1 ≤ t.workers) × (t.workers ≤ 16) × (size t ≤ 1024)
accepted-limits a = let h = accepted-holds a in (h.some, h.most, h.few)

-- ---- files that read as a trace

module _ (bytes : List ℕ) (t : Trace) (e : file_reading bytes ≡ reads t) where
  workers : WorkersKnown t
  workers = rw (trace-reads bytes t e) at (holds-workers (file-holds bytes t e))

  -- what question 10 makes of it: some operation is outside the largest run, or none is
  some-outside : first_outside t < size t → acceptance bytes ≡ refused 10 (first_outside t)
  some-outside l = ((asked bytes).refuses 10 (first_outside t)).1 (by_this t e l refl refl)

  none_left : size t ≤ first_outside t → AcceptedTrace bytes t
  none_left l = record { passes = ((asked bytes).passes t).1 (e, l) }

  -- such a file is refused 10 with place k exactly if k is the lowest operation outside the largest run
  pub refused-place : (k : ℕ) → (acceptance bytes ≡ refused 10 k) ↔ LowestOutside t k
  refused-place k = (forth, λ o. let i = (outside-place workers k).1 o in rw i.0 (some-outside (rw i.0 at i.1)))
    where
      forth : acceptance bytes ≡ refused 10 k → LowestOutside t k
      forth i = elim (less? (first_outside t) (size t)) [
        | inl l ↦
            let same : refused 10 (first_outside t) ≡ refused 10 k = sym (some-outside l) ∙ i in
            let place : k ≡ first_outside t = cc in
            (outside-place workers k).0 (place, rw place l)
        | inr l ↦ absurd (refused-reads (sym i ∙ (none_left l).passes))
      ]

  -- it is accepted exactly if its trace has a complete run
  pub accepted-complete : AcceptedTrace bytes t ↔ ((c : List ℕ) × CompleteRunOf t c)
  accepted-complete = (
    λ a. (largest_run t, (none-outside workers).0 (passed a).1),
    λ c. none_left ((none-outside workers).1 (complete-largest workers c.1)),
  )

  -- and refused 10 exactly if it has none
  pub refused-incomplete : ((k : ℕ) × (acceptance bytes ≡ refused 10 k)) ↔ NoCompleteRun t
  refused-incomplete = (
    λ i r c. refused-reads (sym i.1 ∙ (accepted-complete.1 (r, c)).passes),
    λ n. elim (less? (first_outside t) (size t)) [
      | inl l ↦ (first_outside t, some-outside l)
      | inr l ↦ absurd (n (largest_run t) ((none-outside workers).0 l))
    ],
  )

pub accepted-workers : {bytes : List ℕ} {t : Trace} → AcceptedTrace bytes t → WorkersKnown t
accepted-workers {bytes} {t} a = workers bytes t (accepted-reads a)

-- an accepted trace has a complete run
pub accepted-run : {bytes : List ℕ} {t : Trace} → AcceptedTrace bytes t → CompleteRunOf t (largest_run t)
accepted-run a = (none-outside (accepted-workers a)).0 (passed a).1

-- ---- which refusals there are

-- the first "no" refuses, and nothing else does
pub refused-file : (bytes : List ℕ) (q k : ℕ) → (acceptance bytes ≡ refused q k) ↔ RefusedFile bytes q k
refused-file bytes q k = (λ i. forth i (((asked bytes).refuses q k).0 i), back)
  where
    forth : acceptance bytes ≡ refused q k
        → RefusedNext (λ x y. file_reading bytes ≡ refused x y) (λ t. file_reading bytes ≡ reads t) 10
        (λ t. first_outside t < size t) first_outside q k
        → RefusedFile bytes q k
    forth i (by_earlier e) = by_reading ((file-refused-first bytes q k).0 e)
    forth i (by_this t e l n z) = by_runs t e n ((refused-place bytes t e k).0 (rw n at i))

    back : RefusedFile bytes q k → acceptance bytes ≡ refused q k
    back (by_reading r) = ((asked bytes).refuses q k).1 (by_earlier ((file-refused-first bytes q k).1 r))
    back (by_runs t e n o) = rw n ((refused-place bytes t e k).1 o)

-- how the file's questions come out
pub comes-out : (bytes : List ℕ) → ComesOut (acceptance bytes) (AcceptedTrace bytes) (RefusedFile bytes)
comes-out bytes =
    record { passes = λ t. (λ e. record { passes = e }, λ a. a.passes); refuses = refused-file bytes }

-- their numbers
pub refused-number : {bytes : List ℕ} {q k : ℕ} → RefusedFile bytes q k → q ∈ file_numbers
refused-number {bytes} {q} {k} (by_reading r) = Memᴰ.append_left _ (reading-number bytes q k r)
refused-number (by_runs t e n o) = Memᴰ.append_right reading_numbers (Memᴰ.head n)
