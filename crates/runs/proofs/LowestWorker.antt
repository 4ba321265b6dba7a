-- "The lowest-numbered worker whose next operation may run" (document 01, "Two runs"). In order: the first in the
-- canonical order that can be added is of that worker; there is one such operation; several steps, and with nothing
-- left out; the greedy run is the run that lets the lowest-numbered worker go first, and there is one such run.
use mathlib.Core.Path.{◌≡◌, refl}
use mathlib.Core.Bool.{Bool, not}
use mathlib.Core.List.Memᴰ
use mathlib.Core.List.{List, [], ◌∷◌, ◌++◌}
use mathlib.Core.Option.{Option, none, some}
use Prim.Native.Nat.{ℕ, zero, suc, ◌≤◌}
use native.Mathlib.Omega.{arith}
use native.Mathlib.Nat.{le_refl}
use lib.Dec.{T, T_not, not_T, eqb, eqb→eq}
use Rattle.basics.specs.Membership.{◌∈◌}
use Rattle.basics.proofs.Booleans.{and_left, and_intro}
use Rattle.runs.specs.Rule.{Rule, Monotone, without}
use Rattle.runs.specs.Run.{Run}
use Rattle.runs.specs.Steps.{Addable, Closed, done, addable}
use Rattle.runs.specs.Greedy.{Preference, first_that, found_then, greedy_from}
use Rattle.runs.specs.Workers.{InTurn, count, earlier, Counted, Ascending, up_cons}
use Rattle.runs.specs.Workers.{LowestAddable, LowestFirst, none_can, moves, LowestSteps, no_step, one_step}
use Rattle.runs.proofs.RunSteps.{addable-test}
use Rattle.runs.proofs.GreedyRuns.{First, found, skip, first, first_passes, greedy-from-closed}
use Rattle.runs.proofs.Counts.{addable-next, counted-add, run-counted, earlier-injective}
use Rattle.runs.proofs.CanonicalOrder.{ahead-worker}

-- the first that passes in an ascending list is of the lowest worker of those that pass
first-lowest : {worker : ℕ → ℕ} {p : ℕ → Bool} {l : List ℕ} {x : ℕ} → Ascending worker l → First p l (some x)
    → (y : ℕ) → y ∈ l → T (p y) → worker x ≤ worker y
first-lowest {worker = worker} {p = p} Rattle.runs.specs.Workers.up_nil x10 y _ k = elim x10 [ ]
first-lowest {worker} (up_cons up a) (found {x = z} h) y (Memᴰ.head e) k = rw e (le_refl (worker z))
first-lowest (up_cons up a) (found h) y (Memᴰ.tail m) k = ahead-worker (up y m)
first-lowest {p = p} (up_cons up a) (skip {x = z} n f) y (Memᴰ.head e) k = absurd (T_not (p z) n (rw e at k))
first-lowest (up_cons up a) (skip n f) y (Memᴰ.tail m) k = first-lowest a f y m k

module _ {worker : ℕ → ℕ} {R : Rule} (turn : InTurn R worker) where
  -- the lowest-numbered worker that can move has one operation that can be added
  pub lowest-same : {d : List ℕ} {x y : ℕ} → Counted worker d → LowestAddable worker R d x → LowestAddable worker R d y
      → x ≡ y
  lowest-same {d} {x} {y} c a b = earlier-injective worker x y same (cc (next a.can, next b.can, same))
    where
      same : worker x ≡ worker y
      same = omega (arith, a.lowest b.can, b.lowest a.can)

      next : {z : ℕ} → Addable R d z → earlier worker z ≡ count worker (worker z) d
      next i = addable-next worker turn c i

  -- so there is one run that lets the lowest-numbered worker go first
  pub lowest-first-unique : {d s t : List ℕ} → Counted worker d → LowestFirst worker R d s → LowestFirst worker R d t
      → s ≡ t
  lowest-first-unique c (none_can e) (none_can f) = refl
  lowest-first-unique c (none_can e) (moves a p) = absurd (e.none a.can)
  lowest-first-unique c (moves a p) (none_can e) = absurd (e.none a.can)
  lowest-first-unique c (moves {d = d} {s = s} {x = x} a p) (moves {s = t} {x = y} b q) =
      let e = lowest-same c a b in
      let r : LowestFirst worker R (x ∷ d) t = rw e q in
      cc (lowest-first-unique (counted-add worker turn c a.can) p r)

-- step by step
module _ {worker : ℕ → ℕ} {R : Rule} where
  pub lowest-append : {d s t : List ℕ} → LowestSteps worker R d s → LowestSteps worker R (done d s) t
      → LowestSteps worker R d (s ++ t)
  lowest-append no_step q = q
  lowest-append (one_step a p) q = one_step a (lowest-append p q)

  pub lowest-ends : {d s : List ℕ} → LowestSteps worker R d s → Closed R (done d s) → LowestFirst worker R d s
  lowest-ends no_step c = none_can c
  lowest-ends (one_step a p) c = moves a (lowest-ends p c)

-- without what is no operation, nothing is left out
module _ {R : Rule} where
  none-addable : {d : List ℕ} {x : ℕ} → Addable (without R R.size) d x → Addable R d x
  none-addable {d} {x} a =
      record { below = a.below; new = a.new; allowed = and_left (R.may d x) (not (eqb x R.size)) a.allowed }

  addable-none : {d : List ℕ} {x : ℕ} → Addable R d x → Addable (without R R.size) d x
  addable-none {d} {x} a =
      record {
        below = a.below;
        new = a.new;
        allowed = and_intro (R.may d x) (not (eqb x R.size)) a.allowed
            (not_T (eqb x R.size) (λ e. omega (arith, a.below, eqb→eq x R.size e)));
      }

  pub lowest-whole : {worker : ℕ → ℕ} {d s : List ℕ} → LowestSteps worker (without R R.size) d s
      → LowestSteps worker R d s
  lowest-whole no_step = no_step
  lowest-whole (one_step a p) =
      one_step (record { can = none-addable a.can; lowest = λ i. a.lowest (addable-none i) }) (lowest-whole p)

  pub closed-whole : {d : List ℕ} → Closed (without R R.size) d → Closed R d
  closed-whole c = record { none = λ i. c.none (addable-none i) }

module _ {worker : ℕ → ℕ} {R : Rule} {order : List ℕ}
    (up : Ascending worker order) (all : Preference R.size order) where
  found-lowest : {d : List ℕ} {x : ℕ} → First (addable R d) order (some x) → LowestAddable worker R d x
  found-lowest {d} {x} f = record { can = (addable-test d x).0 (first_passes f); lowest = λ a. lowest a }
    where
      lowest : {y : ℕ} → Addable R d y → worker x ≤ worker y
      lowest {y} a = first-lowest up f y (all.lists a.below) ((addable-test d y).1 a)

  -- the first in the canonical order that can be added is of the lowest-numbered worker that can move
  pub first-addable-lowest : (d : List ℕ) {x : ℕ} → first_that (addable R d) order ≡ some x → LowestAddable worker R d x
  first-addable-lowest d e = found-lowest (rw e at (first (addable R d) order))

  greedy-lowest : (k : ℕ) (d : List ℕ) → Closed R (done d (greedy_from R order k d))
      → LowestFirst worker R d (greedy_from R order k d)
  greedy-lowest zero d c = none_can c
  greedy-lowest (suc k) d c =
      go (first_that (addable R d) order) (first (addable R d) order) c (λ x. greedy-lowest k (x ∷ d))
    where
      next : ℕ → List ℕ
      next x = greedy_from R order k (x ∷ d)

      go : (o : Option ℕ) → First (addable R d) order o → Closed R (done d (found_then o next))
          → ((x : ℕ) → Closed R (done (x ∷ d) (next x)) → LowestFirst worker R (x ∷ d) (next x))
          → LowestFirst worker R d (found_then o next)
      go none f c h = none_can c
      go (some x) f c h = moves (found-lowest f) (h x c)

  -- Going on greedily from any run lets the lowest-numbered worker go first.
  pub greedy-lowest-first : Monotone R → {r : List ℕ} → Run R r
      → LowestFirst worker R (done [] r) (greedy_from R order R.size (done [] r))
  greedy-lowest-first mono {r} p = greedy-lowest R.size (done [] r) (greedy-from-closed mono all p)

  -- And it is the only one that does.
  pub lowest-first-greedy : Monotone R → InTurn R worker → {r s : List ℕ} → Run R r
      → LowestFirst worker R (done [] r) s → s ≡ greedy_from R order R.size (done [] r)
  lowest-first-greedy mono turn p q = lowest-first-unique turn (run-counted mono turn p) q (greedy-lowest-first mono p)
