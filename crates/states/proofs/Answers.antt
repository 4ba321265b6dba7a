-- What the end of a walk without an operation answers, whichever maximal valid execution the walk took. In order: the
-- row of the operation; which operations it must precede; with nothing left out, question 10's place.
use mathlib.Core.Bool.{not}
use mathlib.Core.List.{List, []}
use mathlib.Core.Logic.{◌≢◌, inl, inr}
use mathlib.Core.Path.{◌≡◌, sym, ◌∙◌}
use native.Mathlib.Nat.{le_refl}
use native.Mathlib.Omega.{arith}
use Prim.Native.Nat.{ℕ, ◌<◌, ◌≤◌}
use lib.Dec.{T, leb, T_not, not_T}
use lib.ListN.{length, get_or, take}
use lib.Seq.{ext_get_or, get_or-take, length-take-le}
use borrow.Author.Tests.{ne_eqb, leb-true, le-leb}
use Rattle.basics.specs.Membership.{mem, SameOperations}
use Rattle.basics.proofs.Booleans.{test-equal, test-true, less?}
use Rattle.basics.proofs.Members.{mem-test}
use Rattle.runs.proofs.GreedyRuns.{greedy-without-none}
use Rattle.runs.proofs.RunsWithout.{maximal-without-same}
use Rattle.trace.specs.Premises.{Fits}
use Rattle.trace.specs.Trace.{Trace, size, worker_of}
use Rattle.model.specs.Computed.{largest_run, largest_run_without, row, must_precede_in, first_outside}
use Rattle.model.specs.Rule.{rule, order, WorkersKnown}
use Rattle.model.proofs.Largest.{execution-means, largest_run_without-execution}
use Rattle.model.proofs.Outside.{FirstMissing, missing-unique, outside-missing}
use Rattle.model.proofs.RuleLaws.{rule-monotone}
use Rattle.model.proofs.TableRows.{row-length, row-execution}
use Rattle.states.specs.States.{Exhausted, next_of, lowest_left}
use Rattle.states.proofs.Ends.{run-count, run_holds, run-lowest}

module _ {t : Trace} (f : Fits t) where
  pub workers-known : WorkersKnown t
  workers-known = record { known = λ k l. (f.each k l).worker }

  without-none : largest_run_without t (size t) ≡ largest_run t
  unfolding largest_run largest_run_without
  without-none = greedy-without-none (rule t) (le_refl (size t)) (order t) (size t) []

  module _ {a : ℕ} {r counts events : List ℕ} (x : Exhausted t a r counts events) where
    -- the run holds the operations of the one that the model computes
    same : SameOperations r (largest_run_without t a)
    same =
        maximal-without-same (rule-monotone t) x.maximal
        ((execution-means t).1 (largest_run_without-execution workers-known a))

    -- ---- the row: the done counts

    pub exhausted-row : take t.workers counts ≡ row t a
    exhausted-row = ext_get_or 0 _ _ (long ∙ sym (row-length t a)) each
      where
        long : length (take t.workers counts) ≡ t.workers
        long = length-take-le t.workers counts (omega (arith, f.most, x.shows.counters))

        each : (q : ℕ) → q < length (take t.workers counts)
            → get_or (take t.workers counts) q 0 ≡ get_or (row t a) q 0
        each q l =
            let few : q < t.workers = omega (arith, long) in
            get_or-take t.workers counts q 0 few
            ∙ run-count x.maximal.is_a_run x.shows q
            ∙ sym (row-execution workers-known ((execution-means t).0 x.maximal) q few)

    -- ---- a must precede b: b's worker has not got past b

    pub exhausted-precedes : (b : ℕ) → a ≢ b → b < size t
        → must_precede_in t a b ≡ leb (next_of t counts (worker_of t b)) b
    unfolding must_precede_in largest_run_without
    exhausted-precedes b d l = rw (ne_eqb a b d) (test-equal _ _ forth back)
      where
        next : ℕ
        next = next_of t counts (worker_of t b)

        m : List ℕ
        m = largest_run_without t a

        forth : T (not (mem b m)) → T (leb next b)
        forth h = elim (less? b next) [
          | inl i ↦
              let inside = same.forth.all ((run_holds x.maximal.is_a_run x.shows b l).1 i) in
              absurd (T_not (mem b m) h ((mem-test b m).1 inside))
          | inr i ↦ (test-true _).0 (le-leb _ _ i)
        ]

        back : T (leb next b) → T (not (mem b m))
        back h = not_T (mem b m) (λ i. clash (leb-true _ _ ((test-true _).1 h)) (inside i))
          where
            inside : T (mem b m) → b < next
            inside i = (run_holds x.maximal.is_a_run x.shows b l).0 (same.back.all ((mem-test b m).0 i))

            clash : next ≤ b → b < next → ⊥
            clash i j = omega arith

  -- ---- nothing left out: the lowest operation left is question 10's place

  pub exhausted-outside : {r counts events : List ℕ} → Exhausted t (size t) r counts events
      → lowest_left t counts t.workers ≡ first_outside t
  exhausted-outside {r} {counts} x = missing-unique missing (outside-missing t)
    where
      all : SameOperations r (largest_run t)
      all = rw without-none at (same x)

      own : FirstMissing r 0 (size t) (lowest_left t counts t.workers)
      own = run-lowest f x.maximal.is_a_run x.shows

      missing : FirstMissing (largest_run t) 0 (size t) (lowest_left t counts t.workers)
      missing =
          record {
            from = own.from;
            upto = own.upto;
            before = λ h l. all.forth.all (own.before h l);
            missing = λ l m. own.missing l (all.back.all m);
          }
