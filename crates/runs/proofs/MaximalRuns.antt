-- Maximal runs: they contain every run, hold the same operations, and are those with the most operations. Here
-- nothing is excluded; the runs that lack an operation follow in proofs/RunsWithout. That maximal runs exist is in
-- proofs/CarryOn.
use mathlib.Core.List.Memᴰ
use mathlib.Core.List.{List, [], ◌∷◌, ◌++◌}
use mathlib.Core.Logic.{◌↔◌}
use Prim.Native.Nat.{ℕ, ◌≤◌, ◌<◌}
use native.Mathlib.Omega.{arith}
use lib.ListN.{length, length-append}
use Rattle.basics.specs.Membership.{◌∉◌, ◌⊆◌, SameOperations}
use Rattle.basics.proofs.Members.{here, ⊆-trans, different-apart}
use Rattle.runs.specs.Rule.{Rule, Monotone}
use Rattle.runs.specs.Run.{Run, Complete}
use Rattle.runs.specs.Maximal.{Maximal, Largest}
use Rattle.runs.specs.Steps.{Closed, done}
use Rattle.runs.proofs.Done.{done-same}
use Rattle.runs.proofs.Exchange.{add-run, run-added, closed-contains}
use Rattle.runs.proofs.Lengths.{different-length}

module _ {R : Rule} (mono : Monotone R) where
  pub closed-maximal : {m : List ℕ} → Run R m → Closed R (done [] m) → Maximal R m
  closed-maximal {m} p c = record { is_a_run = p; maximal = λ x q. c.none (run-added mono m x q) }

  pub maximal-closed : {m : List ℕ} → Maximal R m → Closed R (done [] m)
  maximal-closed k = record { none = λ {x} a. k.maximal x (add-run mono k.is_a_run a) }

  -- a maximal run contains every run
  pub maximal-contains : {m r : List ℕ} → Maximal R m → Run R r → r ⊆ m
  maximal-contains {m} k p = ⊆-trans (closed-contains mono (maximal-closed k) p) (done-same m).forth

  -- any two maximal runs hold the same operations
  pub maximal-same : {m k : List ℕ} → Maximal R m → Maximal R k → SameOperations m k
  maximal-same p q = record { forth = maximal-contains q p.is_a_run; back = maximal-contains p q.is_a_run }

  -- the maximal runs are the runs with the most operations
  pub maximal-largest : {m : List ℕ} → Maximal R m ↔ Largest R m
  maximal-largest {m} = (largest, maximal)
    where
      largest : Maximal R m → Largest R m
      largest k = record { is_a_run = k.is_a_run; most = λ r p. different-length p.different (maximal-contains k p) }

      too_long : (x : ℕ) → length (m ++ x ∷ []) ≤ length m → ⊥
      too_long x h = omega (arith, length-append m (x ∷ []))

      maximal : Largest R m → Maximal R m
      maximal k = record { is_a_run = k.is_a_run; maximal = λ x p. too_long x (k.most (m ++ x ∷ []) p) }

  -- where there is a complete run, every maximal run is complete
  pub maximal-complete : {m c : List ℕ} → Maximal R m → Complete R c → Complete R m
  maximal-complete k c =
      record { is_a_run = k.is_a_run; holds = λ x l. (maximal-contains k c.is_a_run).all (c.holds x l) }

-- a complete run is maximal
pub complete-maximal : {R : Rule} {c : List ℕ} → Complete R c → Maximal R c
complete-maximal {R} {c} k = record { is_a_run = k.is_a_run; maximal = λ x p. twice x p (k.holds x (inside x p)) }
  where
    inside : (x : ℕ) → Run R (c ++ x ∷ []) → x < R.size
    inside x p = p.below (Memᴰ.append_right c here)

    twice : (x : ℕ) → Run R (c ++ x ∷ []) → x ∉ c
    twice x p = different-apart c [] x p.different
