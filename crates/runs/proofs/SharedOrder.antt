-- Must-precede is the order that all complete runs share: for different operations a and b of a rule that has a
-- complete run, a must precede b exactly when a stands before b in every complete run. It then never holds both ways,
-- and it is transitive. At the end: its test.
use mathlib.Core.Path.{sym}
use mathlib.Core.List.Memᴰ
use mathlib.Core.List.{List, [], ◌∷◌, ◌++◌, append_assoc}
use mathlib.Core.Logic.{inl, inr, ◌↔◌, ◌≢◌}
use Prim.Native.Nat.{ℕ, ◌<◌}
use lib.Dec.{T, eqb, eqb→eq, eqb_refl, T_not, not_T}
use Rattle.basics.specs.Membership.{◌∈◌, ◌∉◌, ◌⊆◌, mem}
use Rattle.basics.proofs.Booleans.{booleans}
use Rattle.basics.proofs.Members.{here, mem-test, in_rest, lacks-snoc}
use Rattle.runs.specs.Rule.{Rule, Monotone, without}
use Rattle.runs.specs.Run.{Run, Complete, StandsBefore}
use Rattle.runs.specs.Maximal.{MaximalWithout}
use Rattle.runs.specs.MustPrecede.{MustPrecede}
use Rattle.runs.specs.Greedy.{Preference, greedy, must_precede}
use Rattle.runs.proofs.RunSteps.{run-first}
use Rattle.runs.proofs.RunsWithout.{maximal-without-contains, maximal-without-same}
use Rattle.runs.proofs.GreedyRuns.{greedy-without-maximal}
use Rattle.runs.proofs.CarryOn.{carry-on, maximal-without-exists}
use Rattle.runs.proofs.Before.{before-total, before-asymmetric, before-append}

-- the run up to b, where b stands before a, lacks a
upto-lacks : {R : Rule} {a b : ℕ} {s : List ℕ} → b ≢ a → Run R s → (p : StandsBefore b a s) → a ∉ p.before ++ b ∷ []
upto-lacks {a = a} {b = b} {s = s} d r p = lacks-snoc (λ m. before-asymmetric r.different (early m) p) d
  where
    early : a ∈ p.before → StandsBefore a b s
    early m = rw p.split (before-append m here)

module _ {R : Rule} (mono : Monotone R) where
  -- b stands before a in some run: then b is in every maximal run without a
  before-inside : {a b : ℕ} {s m : List ℕ} → b ≢ a → Run R s → StandsBefore b a s → MaximalWithout R a m → b ∈ m
  before-inside {b = b} {m = m} d r p k = contained.all (Memᴰ.append_right p.before here)
    where
      upto : List ℕ
      upto = p.before ++ b ∷ []

      whole : Run R (upto ++ p.after)
      whole = rw (append_assoc, ← p.split) r

      contained : upto ⊆ m
      contained = maximal-without-contains mono k (run-first mono upto p.after whole) (upto-lacks d r p)

  module _ {c : List ℕ} (complete : Complete R c) where
    pub must-precede-shared : {a b : ℕ} → a < R.size → b < R.size → a ≢ b
        → MustPrecede R a b ↔ ((s : List ℕ) → Complete R s → StandsBefore a b s)
    must-precede-shared {a} {b} i j d = (forth, back)
      where
        forth : MustPrecede R a b → (s : List ℕ) → Complete R s → StandsBefore a b s
        forth k s f = elim (before-total d (f.holds a i) (f.holds b j)) [ inl p ↦ p | inr p ↦ absurd (never p) ]
          where
            never : StandsBefore b a s → ⊥
            never p =
                let m = maximal-without-exists mono a in
                k.outside m.0 m.1 (before-inside (λ e. d (sym e)) f.is_a_run p m.1)

        back : ((s : List ℕ) → Complete R s → StandsBefore a b s) → MustPrecede R a b
        back h = record { differ = d; outside = outside }
          where
            -- a run without a that holds b is carried on to a complete one, in which b stands before a
            outside : (m : List ℕ) → MaximalWithout R a m → b ∉ m
            outside m k n =
                before-asymmetric on.1.is_a_run.different (h (m ++ on.0) on.1) (before-append n late)
              where
                on : (s : List ℕ) × Complete R (m ++ s)
                on = carry-on mono k.is_a_run complete

                late : a ∈ on.0
                late = in_rest m (on.1.holds a i) k.lacks

    must-precede-before : {a b : ℕ} → a < R.size → b < R.size → MustPrecede R a b
        → (s : List ℕ) → Complete R s → StandsBefore a b s
    must-precede-before i j p = (must-precede-shared i j p.differ).0 p

    pub must-precede-asymmetric : {a b : ℕ} → a < R.size → b < R.size → MustPrecede R a b → MustPrecede R b a → ⊥
    must-precede-asymmetric i j p q =
        before-asymmetric complete.is_a_run.different
        (must-precede-before i j p c complete)
        (must-precede-before j i q c complete)

  -- a run without a, where a must precede b, lacks b, and so what b must precede: with or without a complete run
  pub must-precede-chain : {a b e : ℕ} → a ≢ e → MustPrecede R a b → MustPrecede R b e → MustPrecede R a e
  must-precede-chain {a} {b} {e} d p q = record { differ = d; outside = outside }
    where
      outside : (m : List ℕ) → MaximalWithout R a m → e ∉ m
      outside m k i =
          let t = maximal-without-exists mono b in
          q.outside t.0 t.1 ((maximal-without-contains mono t.1 k.is_a_run (p.outside m k)).all i)

  module _ {c : List ℕ} (complete : Complete R c) where
    pub must-precede-transitive : {a b e : ℕ} → a < R.size → b < R.size
        → MustPrecede R a b → MustPrecede R b e → MustPrecede R a e
    must-precede-transitive {a} {b} {e} i j p q = must-precede-chain differ p q
      where
        differ : a ≢ e
        differ h = must-precede-asymmetric complete i j p (rw h q)

  -- ---- the test

  -- outside one maximal run without a is outside each
  pub must-precede-outside : {a b : ℕ} {m : List ℕ} → a ≢ b → MaximalWithout R a m → MustPrecede R a b ↔ (b ∉ m)
  must-precede-outside {a} {b} {m} d k = (λ p. p.outside m k, back)
    where
      back : b ∉ m → MustPrecede R a b
      back n = record { differ = d; outside = λ r i q. n ((maximal-without-same mono i k).forth.all q) }

  pub must-precede-test : {order : List ℕ} → Preference R.size order
      → (a b : ℕ) → T (must_precede R order a b) ↔ MustPrecede R a b
  must-precede-test {order} all a b = (forth, back)
    where
      r : List ℕ
      r = greedy (without R a) order

      maximal : MaximalWithout R a r
      maximal = greedy-without-maximal mono all a

      forth : T (must_precede R order a b) → MustPrecede R a b
      forth h = (must-precede-outside differ maximal).1 (λ m. T_not (mem b r) (search booleans) ((mem-test b r).1 m))
        where
          differ : a ≢ b
          differ e = T_not (eqb a b) (search booleans) (rw e (eqb_refl b))

      back : MustPrecede R a b → T (must_precede R order a b)
      back p =
          let d = not_T (eqb a b) (λ h. p.differ (eqb→eq a b h)) in
          let n = not_T (mem b r) (λ h. p.outside r maximal ((mem-test b r).0 h)) in
          search booleans
