-- The greedy run is maximal, whatever the order of preference. In order: the first that passes; greedy runs step by
-- step; the number of steps; the greedy run is maximal, from nothing and from any run; nothing left out.
use mathlib.Core.Path.{◌≡◌, refl, ap, ap₂, fun_ext}
use mathlib.Core.Bool.{Bool, true, false, not, cond}
use mathlib.Core.List.Memᴰ
use mathlib.Core.List.{List, [], ◌∷◌, ◌++◌}
use mathlib.Core.Option.{Option, none, some}
use Prim.Native.Nat.{ℕ, zero, suc, ◌+◌, ◌≤◌, ◌<◌}
use native.Mathlib.Nat.{not-suc-le-zero}
use native.Mathlib.Omega.{arith}
use lib.Dec.{T, T_not, not_T, eqb, eqb→eq, ltb→lt}
use lib.ListN.{length}
use Rattle.basics.specs.Membership.{◌∈◌, Different, empty, fresh}
use Rattle.basics.proofs.Booleans.{booleans, test-equal}
use Rattle.runs.specs.Rule.{Rule, Monotone, without}
use Rattle.runs.specs.Run.{Run}
use Rattle.runs.specs.Maximal.{Maximal, MaximalWithout}
use Rattle.runs.specs.Steps.{Addable, Closed, Steps, stop, step, done, addable}
use Rattle.runs.specs.Greedy.{Preference, first_that, found_then, greedy_from, greedy}
use Rattle.runs.proofs.Done.{done-append}
use Rattle.runs.proofs.Lengths.{below_length}
use Rattle.runs.proofs.RunSteps.{addable-test, run-empty, run-steps, steps-run, steps-append}
use Rattle.runs.proofs.MaximalRuns.{closed-maximal}
use Rattle.runs.proofs.RunsWithout.{without-monotone, maximal-without}

-- ---- the first that passes

-- `first_that` step by step
pub data First (p : ℕ → Bool) : List ℕ → Option ℕ → Type 0 where
  missing : First p [] none
  found : {x : ℕ} {l : List ℕ} → T (p x) → First p (x ∷ l) (some x)
  skip : {x : ℕ} {l : List ℕ} {o : Option ℕ} → T (not (p x)) → First p l o → First p (x ∷ l) o

pub first : (p : ℕ → Bool) (l : List ℕ) → First p l (first_that p l)
first p [] = missing
first p (x ∷ l) = go (p x) refl (first p l)
  where
    go : (b : Bool) → p x ≡ b → First p l (first_that p l) → First p (x ∷ l) (cond b (some x) (first_that p l))
    go true e f = found {x = x} (rw e tt)
    go false e f = skip {x = x} (rw e tt) f

pub first_passes : {p : ℕ → Bool} {l : List ℕ} {x : ℕ} → First p l (some x) → T (p x)
first_passes (found h) = h
first_passes (skip n f) = first_passes f

pub first-missing : {p : ℕ → Bool} {l : List ℕ} → First p l none → (x : ℕ) → x ∈ l → T (p x) → ⊥
first-missing {p = p} missing x x11 h = elim x11 [ ]
first-missing {p} (skip {x = y} n f) x (Memᴰ.head e) h = T_not (p y) n (rw e at h)
first-missing (skip n f) x (Memᴰ.tail m) h = first-missing f x m h

-- ---- greedy runs

-- what is done is different operations of the rule: it grows no longer than the rule's size
record Within (n : ℕ) (d : List ℕ) : Type 0 where
  different : Different d
  below : {x : ℕ} → x ∈ d → x < n

within-add : {R : Rule} {d : List ℕ} {x : ℕ} → Within R.size d → Addable R d x → Within R.size (x ∷ d)
within-add {R} {d} {x} w a = record { different = fresh a.new w.different; below = λ m. below m }
  where
    below : {y : ℕ} → y ∈ x ∷ d → y < R.size
    below (Memᴰ.head e) = rw e a.below
    below (Memᴰ.tail m) = w.below m

within-steps : {R : Rule} {d s : List ℕ} → Within R.size d → Steps R d s → Within R.size (done d s)
within-steps w stop = w
within-steps w (step a p) = within-steps (within-add w a) p

module _ {R : Rule} (order : List ℕ) where
  pub greedy-steps : (k : ℕ) (d : List ℕ) → Steps R d (greedy_from R order k d)
  greedy-steps zero d = stop
  greedy-steps (suc k) d =
      go (first_that (addable R d) order) (first (addable R d) order) (λ x. greedy-steps k (x ∷ d))
    where
      next : ℕ → List ℕ
      next x = greedy_from R order k (x ∷ d)

      go : (o : Option ℕ) → First (addable R d) order o → ((x : ℕ) → Steps R (x ∷ d) (next x))
          → Steps R d (found_then o next)
      go none f h = stop
      go (some x) f h = step ((addable-test d x).0 (first_passes f)) (h x)

  module _ (all : Preference R.size order) where
    -- after as many steps as there are operations, nothing can be added
    greedy-closed : (k : ℕ) {d : List ℕ} → Within R.size d → R.size ≤ length d + k
        → Closed R (done d (greedy_from R order k d))
    greedy-closed zero {d} w l = record { none = λ a. full (within-add w a) }
      where
        full : {x : ℕ} → Within R.size (x ∷ d) → ⊥
        full v = omega (arith, below_length (λ y m. v.below m) v.different)
    greedy-closed (suc k) {d} w l =
        go (first_that (addable R d) order) (first (addable R d) order)
        (λ x a. greedy-closed k (within-add w a) (omega arith))
      where
        next : ℕ → List ℕ
        next x = greedy_from R order k (x ∷ d)

        go : (o : Option ℕ) → First (addable R d) order o
            → ((x : ℕ) → Addable R d x → Closed R (done (x ∷ d) (next x))) → Closed R (done d (found_then o next))
        go none f h = record { none = λ {x} a. first-missing f x (all.lists a.below) ((addable-test d x).1 a) }
        go (some x) f h = h x ((addable-test d x).0 (first_passes f))

-- ---- the number of steps

no_more : (l : List ℕ) → length l ≤ 0 → [] ≡ l
no_more [] h = refl
no_more (x ∷ l) h = absurd (not-suc-le-zero h)

-- a greedy run needs no more steps than it has operations
pub greedy-enough : (R : Rule) (order : List ℕ) (j k : ℕ) (d : List ℕ) → length (greedy_from R order k d) ≤ j → j ≤ k
    → greedy_from R order j d ≡ greedy_from R order k d
greedy-enough R order zero k d h l = no_more (greedy_from R order k d) h
greedy-enough R order (suc j) zero d h l = absurd (not-suc-le-zero l)
greedy-enough R order (suc j) (suc k) d h l =
    go (first_that (addable R d) order) h (λ x m. greedy-enough R order j k (x ∷ d) m (omega arith))
  where
    next : ℕ → ℕ → List ℕ
    next i x = greedy_from R order i (x ∷ d)

    go : (o : Option ℕ) → length (found_then o (next k)) ≤ suc j
        → ((x : ℕ) → length (next k x) ≤ j → next j x ≡ next k x) → found_then o (next j) ≡ found_then o (next k)
    go none h f = refl
    go (some x) h f = ap (λ (r : List ℕ). x ∷ r) (f x (omega arith))

-- ---- greedy runs are maximal

module _ {R : Rule} (mono : Monotone R) {order : List ℕ} (all : Preference R.size order) where
  -- going on greedily from any run ends where nothing can be added
  pub greedy-from-closed : {r : List ℕ} → Run R r
      → Closed R (done (done [] r) (greedy_from R order R.size (done [] r)))
  greedy-from-closed {r} p = greedy-closed order all R.size (within-steps nothing (run-steps mono p)) (omega arith)
    where
      nothing : Within R.size []
      nothing = record { different = empty; below = λ m. elim m [ ] }

  -- and so with a maximal run
  pub greedy-from-maximal : {r : List ℕ} → Run R r → Maximal R (r ++ greedy_from R order R.size (done [] r))
  greedy-from-maximal {r} p =
      closed-maximal mono (steps-run mono steps) (rw (done-append [] r _) (greedy-from-closed p))
    where
      steps : Steps R [] (r ++ greedy_from R order R.size (done [] r))
      steps = steps-append (run-steps mono p) (greedy-steps order R.size (done [] r))

  -- the greedy run is maximal
  pub greedy-maximal : Maximal R (greedy R order)
  greedy-maximal = greedy-from-maximal run-empty

-- the same at the rule without a
pub greedy-without-maximal : {R : Rule} → Monotone R → {order : List ℕ} → Preference R.size order
    → (a : ℕ) → MaximalWithout R a (greedy (without R a) order)
greedy-without-maximal mono all a = maximal-without.1 (greedy-maximal (without-monotone mono a) all)

-- ---- nothing left out

module _ (R : Rule) {a : ℕ} (above : R.size ≤ a) where
  addable-without-none : (d : List ℕ) (x : ℕ) → addable (without R a) d x ≡ addable R d x
  addable-without-none d x = test-equal _ _ forth back
    where
      forth : T (addable (without R a) d x) → T (addable R d x)
      forth h = search booleans

      back : T (addable R d x) → T (addable (without R a) d x)
      back h =
          let n = not_T (eqb x a) (λ e. apart (ltb→lt x R.size (search booleans)) (eqb→eq x a e)) in
          search booleans
        where
          apart : x < R.size → x ≡ a → ⊥
          apart l e = omega arith

  -- leaving out a number that no operation has leaves nothing out
  pub greedy-without-none : (order : List ℕ) (k : ℕ) (d : List ℕ)
      → greedy_from (without R a) order k d ≡ greedy_from R order k d
  greedy-without-none order zero d = refl
  greedy-without-none order (suc k) d =
      ap₂ found_then
      (ap (λ (p : ℕ → Bool). first_that p order) (fun_ext (addable-without-none d)))
      (fun_ext (λ x. greedy-without-none order k (x ∷ d)))
