-- From any run that lacks a, adding other operations while any may run, in whatever order, ends with the operations of
-- the largest run without a. In order: that it does; which ends there are; that there is one; that adding ends.
use mathlib.Core.Path.{◌≡◌, sym}
use mathlib.Core.List.Memᴰ
use mathlib.Core.List.{List, [], ◌∷◌, ◌++◌, append_assoc, append-nil}
use mathlib.Core.Logic.{inl, inr, ◌↔◌, ◌≢◌}
use Prim.Native.Nat.{ℕ, ◌+◌, ◌≤◌}
use native.Mathlib.Omega.{arith}
use lib.ListN.{length, length-append}
use Rattle.basics.specs.Membership.{◌∉◌, SameOperations}
use Rattle.basics.proofs.Booleans.{equal?}
use Rattle.basics.proofs.Members.{here, lacks-snoc}
use Rattle.runs.specs.Rule.{Rule, Monotone}
use Rattle.runs.specs.Run.{Run}
use Rattle.runs.specs.Maximal.{MaximalWithout, LargestWithout, AddingEnds, ended, added}
use Rattle.runs.proofs.RunSteps.{run-first, run_length}
use Rattle.runs.proofs.RunsWithout.{without-monotone, run-without, maximal-without}
use Rattle.runs.proofs.RunsWithout.{maximal-without-largest, maximal-without-same}
use Rattle.runs.proofs.CarryOn.{extends-maximal}

module _ {R : Rule} {a : ℕ} where
  adding-maximal : {r m : List ℕ} → Run R r → a ∉ r → AddingEnds R a r m → MaximalWithout R a m
  adding-maximal {r} p n (ended f) = record { is_a_run = p; lacks = n; maximal = only }
    where
      only : (x : ℕ) → Run R (r ++ x ∷ []) → x ≡ a
      only x q = elim (equal? x a) [ inl e ↦ e | inr d ↦ absurd (f x d q) ]
  adding-maximal p n (added x d q h) = adding-maximal q (lacks-snoc n d) h

  module _ (mono : Monotone R) where
    -- Whatever order is taken, the end holds the operations of the largest run without a.
    pub any_order : {r m k : List ℕ} → Run R r → a ∉ r → AddingEnds R a r m → LargestWithout R a k → SameOperations m k
    any_order p n h l = maximal-without-same mono (adding-maximal p n h) ((maximal-without-largest mono).1 l)

    adding-along : (r s : List ℕ) → MaximalWithout R a (r ++ s) → AddingEnds R a r (r ++ s)
    adding-along r [] k = rw append-nil (ended (λ x d p. d (k.maximal x (rw append-nil p))))
    adding-along r (x ∷ s) k = added x differ one (rw append_assoc at (adding-along (r ++ x ∷ []) s whole))
      where
        whole : MaximalWithout R a ((r ++ x ∷ []) ++ s)
        whole = rw append_assoc k

        differ : x ≢ a
        differ e = k.lacks (rw (← e) (Memᴰ.append_right r here))

        one : Run R (r ++ x ∷ [])
        one = run-first mono (r ++ x ∷ []) s whole.is_a_run

    adding-extends : {r m : List ℕ} → AddingEnds R a r m → (s : List ℕ) × (m ≡ r ++ s)
    adding-extends {r} (ended f) = ([], sym (append-nil r))
    adding-extends {r} (added x d p h) =
        let t = adding-extends h in
        (x ∷ t.0, rw append_assoc at t.1)

    -- The ends of adding from r are the maximal runs without a that begin with r: every order is taken.
    pub adding-ends : {r : List ℕ} → Run R r → a ∉ r
        → (m : List ℕ) → AddingEnds R a r m ↔ ((s : List ℕ) × (m ≡ r ++ s) × MaximalWithout R a m)
    adding-ends {r} p n m = (forth, λ t. rw t.1 (adding-along r t.0 (rw t.1 at t.2)))
      where
        forth : AddingEnds R a r m → (s : List ℕ) × (m ≡ r ++ s) × MaximalWithout R a m
        forth h =
            let t = adding-extends h in
            (t.0, t.1, adding-maximal p n h)

    pub adding-exists : {r : List ℕ} → Run R r → a ∉ r → (m : List ℕ) × AddingEnds R a r m
    adding-exists {r} p n =
        let t = extends-maximal (without-monotone mono a) (run-without.1 (p, n)) in
        (r ++ t.0, adding-along r t.0 (maximal-without.1 t.1))

-- no order goes on for ever: what is added to r is at most what is left
pub adding-bounded : {R : Rule} (r s : List ℕ) → Run R (r ++ s) → length r + length s ≤ R.size
adding-bounded r s p = omega (arith, run_length p, length-append r s)
