-- What the end of a walk tells of its run. In order: how many operations of each worker it holds; which ones; the
-- lowest that it lacks.
use mathlib.Core.Bool.{Bool, true, false, cond}
use mathlib.Core.List.{List, []}
use mathlib.Core.Logic.{◌⊎◌, inl, inr, ◌↔◌, ◌≢◌}
use mathlib.Core.Path.{◌≡◌, refl}
use native.Mathlib.Omega.{arith}
use Prim.Native.Nat.{ℕ, zero, suc, ◌<◌, ◌≤◌}
use lib.Dec.{ltb}
use lib.ListN.{get_or}
use borrow.Author.Tests.{ltb-true, ltb-false}
use Rattle.basics.specs.Membership.{◌∈◌, ◌∉◌, up_to}
use Rattle.basics.proofs.Booleans.{equal?, less?}
use Rattle.runs.specs.Run.{Run}
use Rattle.runs.specs.Steps.{done}
use Rattle.runs.specs.Workers.{count, earlier}
use Rattle.runs.proofs.Counts.{count-done, counted-in, earlier-less, run-counted}
use Rattle.trace.specs.Premises.{Fits}
use Rattle.trace.specs.Trace.{Trace, size, worker_of}
use Rattle.model.specs.Rule.{rule}
use Rattle.model.proofs.Outside.{FirstMissing}
use Rattle.model.proofs.RuleLaws.{rule-monotone, rule-in-turn}
use Rattle.index.specs.Indexed.{Rth}
use Rattle.index.proofs.Operations.{at-rth, at_some, at_most}
use Rattle.states.specs.States.{Shows, next_of, lowest_left}

module _ {t : Trace} {r counts events : List ℕ} (run : Run (rule t) r) (s : Shows t (done [] r) counts events) where
  -- ---- how many

  pub run-count : (q : ℕ) → get_or counts q 0 ≡ count (worker_of t) q r
  run-count q = omega (arith, s.counted q, count-done (worker_of t) q [] r)

  -- ---- which ones

  -- those whose worker has done more operations than come before them
  at_count : (x : ℕ) → (x ∈ r) ↔ (earlier (worker_of t) x < get_or counts (worker_of t x) 0)
  at_count x =
      rw (run-count (worker_of t x)) (counted-in r (run-counted (rule-monotone t) (rule-in-turn t) run) x)

  -- an operation is in the run exactly if it is below its worker's next one
  pub run_holds : (x : ℕ) → x < size t → (x ∈ r) ↔ (x < next_of t counts (worker_of t x))
  run_holds x l = (λ m. forth ((at_count x).0 m), λ h. (at_count x).1 (back h))
    where
      q : ℕ
      q = worker_of t x

      next : ℕ
      next = next_of t counts q

      fewer : earlier (worker_of t) x < count (worker_of t) q (up_to (size t))
      fewer = earlier-less (worker_of t) q (size t) refl l

      forth : earlier (worker_of t) x < get_or counts q 0 → x < next
      forth h = go (less? x next) (less? next (size t))
        where
          go : (x < next) ⊎ (next ≤ x) → (next < size t) ⊎ (size t ≤ next) → x < next
          go (inl i) j = i
          go (inr i) (inr j) = omega arith
          go (inr i) (inl j) = absurd (clash (at-rth t q (get_or counts q 0) j) (equal? next x))
            where
              clash : Rth t q (get_or counts q 0) next → (next ≡ x) ⊎ (next ≢ x) → ⊥
              clash k (inl z) = omega (arith, rw z at k.ahead)
              clash k (inr z) =
                  omega (arith, rw k.own at k.ahead, earlier-less (worker_of t) q x k.own (omega (arith, z)))

      back : x < next → earlier (worker_of t) x < get_or counts q 0
      back h = go (less? (earlier (worker_of t) x) (get_or counts q 0))
        where
          go : (earlier (worker_of t) x < get_or counts q 0) ⊎ (get_or counts q 0 ≤ earlier (worker_of t) x)
              → earlier (worker_of t) x < get_or counts q 0
          go (inl i) = i
          go (inr i) =
              let k = at_some t q (get_or counts q 0) (omega (arith, fewer)) in
              let a = rw k.own at k.ahead in
              absurd (omega (arith, a, earlier-less (worker_of t) q next refl h))

-- ---- the lowest of the workers' next operations

module _ (t : Trace) (counts : List ℕ) where
  left-upto : (q : ℕ) → lowest_left t counts q ≤ size t
  unfolding lowest_left
  left-upto zero = omega arith
  left-upto (suc q) = go (ltb (next_of t counts q) (lowest_left t counts q)) (at_most t q (get_or counts q 0)) (left-upto q)
    where
      go : (b : Bool) {i j : ℕ} → i ≤ size t → j ≤ size t → cond b i j ≤ size t
      go true h k = h
      go false h k = k

  left_below : (q r : ℕ) → r < q → lowest_left t counts q ≤ next_of t counts r
  unfolding lowest_left
  left_below zero r h = absurd (omega arith)
  left_below (suc q) r h = go (ltb k least) refl (equal? r q) (left_below q r)
    where
      k : ℕ
      k = next_of t counts q

      least : ℕ
      least = lowest_left t counts q

      go : (b : Bool) → ltb k least ≡ b → (r ≡ q) ⊎ (r ≢ q) → (r < q → least ≤ next_of t counts r)
          → cond b k least ≤ next_of t counts r
      go true z (inl i) f = rw i (omega arith)
      go true z (inr i) f = omega (arith, ltb-true k least z, f (omega (arith, i)))
      go false z (inl i) f = rw i (ltb-false k least z)
      go false z (inr i) f = f (omega (arith, i))

  left_is : (q : ℕ) → lowest_left t counts q < size t → (r : ℕ) × (lowest_left t counts q ≡ next_of t counts r)
  unfolding lowest_left
  left_is zero h = absurd (omega arith)
  left_is (suc q) h = go (ltb (next_of t counts q) (lowest_left t counts q)) h (left_is q)
    where
      go : (b : Bool) → cond b (next_of t counts q) (lowest_left t counts q) < size t
          → (lowest_left t counts q < size t → (r : ℕ) × (lowest_left t counts q ≡ next_of t counts r))
          → (r : ℕ) × (cond b (next_of t counts q) (lowest_left t counts q) ≡ next_of t counts r)
      go true l f = (q, refl)
      go false l f = f l

-- it is the lowest operation that the run lacks
pub run-lowest : {t : Trace} → Fits t → {r : List ℕ} {counts events : List ℕ} → Run (rule t) r
    → Shows t (done [] r) counts events
    → FirstMissing r 0 (size t) (lowest_left t counts t.workers)
run-lowest {t} f {r} {counts} run s =
    record { from = omega arith; upto = left-upto t counts p; before = λ {j} h l. before j l; missing = missing }
  where
    p : ℕ
    p = t.workers

    before : (j : ℕ) → j < lowest_left t counts p → j ∈ r
    before j l =
        let h : j < size t = omega (arith, left-upto t counts p) in
        (run_holds run s j h).1 (omega (arith, left_below t counts p (worker_of t j) (f.each j h).worker))

    missing : lowest_left t counts p < size t → lowest_left t counts p ∉ r
    missing l = go (left_is t counts p l)
      where
        go : (q : ℕ) × (lowest_left t counts p ≡ next_of t counts q) → lowest_left t counts p ∉ r
        go i m =
            let n = at-rth t i.0 (get_or counts i.0 0) (omega (arith, i.1)) in
            let own : worker_of t (lowest_left t counts p) ≡ i.0 = rw i.1 n.own in
            let h = rw own at ((run_holds run s (lowest_left t counts p) l).0 m) in
            omega (arith, i.1)
