-- Operations by the index, step by step. In order: each worker's next one; the lowest of them; how many come before
-- one.
use mathlib.Core.List.{List}
use mathlib.Core.Logic.{◌≢◌}
use mathlib.Core.Path.{◌≡◌, refl, sym, ◌∙◌}
use native.Mathlib.Numerals.{add-one}
use native.Mathlib.Omega.{arith}
use Prim.Native.Nat.{ℕ, ◌+◌, ◌-◌, ◌<◌, ◌≤◌}
use lib.ListN.{get_or}
use borrow.Author.Tests.{lt-ltb, le-ltb}
use Rattle.basics.specs.Membership.{up_to}
use Rattle.runs.specs.Workers.{count, earlier}
use Rattle.runs.proofs.Counts.{earlier-less}
use Rattle.trace.specs.Trace.{Trace, size, worker_of}
use Rattle.index.specs.Indexed.{Places}
use Rattle.index.proofs.Lookups.{part_count, part-rth, part_at}
use Rattle.index.proofs.Operations.{rth-at, at_none}
use Rattle.states.specs.States.{next_of, lowest_left}

module _ {t : Trace} {n : ℕ} {order starts : List ℕ} (x : Places t n order starts) (counts : List ℕ) {q : ℕ}
    (known : q < t.workers) where
  pub next-found : get_or starts q 0 + get_or counts q 0 < get_or starts (q + 1) 0
      → get_or order (get_or starts q 0 + get_or counts q 0) 0 ≡ next_of t counts q
  next-found h = sym (rth-at t (part-rth x q (get_or counts q 0) known h).1)

  pub next_past : get_or starts (q + 1) 0 ≤ get_or starts q 0 + get_or counts q 0 → n ≡ next_of t counts q
  next_past h =
      let all = rw (← x.count) at (part_count x q (omega (arith, known, x.fits.most))) in
      let l : count (worker_of t) q (up_to (size t)) ≤ get_or counts q 0 = omega (arith, all, h) in
      sym (at_none t q (get_or counts q 0) l ∙ x.count)

-- ---- the lowest of the workers below q: k is the next operation of worker q

module _ (t : Trace) (counts : List ℕ) where
  pub lowest-none : lowest_left t counts 0 ≡ size t
  unfolding lowest_left
  lowest-none = refl

  module _ (q : ℕ) {k least : ℕ} (e : least ≡ lowest_left t counts q) (i : k ≡ next_of t counts q) where
    pub lowest-new : k < least → k ≡ lowest_left t counts (q + 1)
    unfolding lowest_left
    lowest-new h = rw add-one (rw (← e, ← i) (simp (lt-ltb k least h)))

    pub lowest-old : least ≤ k → least ≡ lowest_left t counts (q + 1)
    unfolding lowest_left
    lowest-old h = rw add-one (rw (← e, ← i) (simp (le-ltb k least h)))

-- ---- how many come before operation k, by a search through its worker's part: `at` is the next place

pub record Unfound (order : List ℕ) (first k at : ℕ) : Type 0 where
  pub from_on : first ≤ at
  pub not_there : (j : ℕ) → first ≤ j → j < at → get_or order j 0 ≢ k

module _ {t : Trace} {n : ℕ} {order starts : List ℕ} (x : Places t n order starts) {q k : ℕ} (below : k < n)
    (own : worker_of t k ≡ q) where
  known : q < t.workers
  known = rw (← own) (x.fits.each k (rw x.count below)).worker

  -- where it is found
  pub prior-found : {at : ℕ} → get_or starts q 0 ≤ at → at < get_or starts (q + 1) 0 → get_or order at 0 ≡ k
      → at - get_or starts q 0 ≡ earlier (worker_of t) k
  prior-found {at} h l e =
      let same : get_or starts q 0 + (at - get_or starts q 0) ≡ at = omega (arith, h) in
      let r = (part-rth x q (at - get_or starts q 0) known (omega (arith, h, l))).1 in
      rw (same, e) at (sym r.ahead)

  -- it is
  pub prior-there : {at : ℕ} → Unfound order (get_or starts q 0) k at → get_or starts (q + 1) 0 ≤ at
      → ⊥
  prior-there {at} u l =
      let i = count (worker_of t) q (up_to k) in
      let few = earlier-less (worker_of t) q n own below in
      let here = rw own at (part_at x k below).1 in
      let end = part_count x q (omega (arith, known, x.fits.most)) in
      u.not_there (get_or starts q 0 + i) (omega arith) (omega (arith, l, end, few)) here
