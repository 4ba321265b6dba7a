-- The test for a race. In order: it holds exactly if the two operations race; what it says of the two, and where there
-- is no race; as the code comes to it.
use mathlib.Core.Bool.{true, false, not, and-false}
use mathlib.Core.Logic.Iff
use mathlib.Core.Logic.{◌⊎◌, inl, inr, ◌↔◌}
use mathlib.Core.Path.{◌≡◌}
use native.Mathlib.Omega.{arith}
use Prim.Native.Nat.{ℕ, ◌<◌, ◌≤◌}
use lib.Dec.{ltb}
use lib.ListN.{get_or-eq_default}
use borrow.Author.Tests.{ltb-true, lt-ltb}
use Rattle.basics.proofs.Booleans.{both_true, both-pass, never-passes, less?}
use Rattle.trace.specs.Trace.{Trace, size, operation, worker_of, no_operation, is_access}
use Rattle.model.specs.Computed.{unordered_in, must_precede_in}
use Rattle.model.specs.Orders.{Unordered}
use Rattle.model.specs.Rule.{WorkersKnown}
use Rattle.model.proofs.SharedOrder.{unordered-test}
use Rattle.model.proofs.TableRows.{earlier-must-precede}
use Rattle.conflicts.specs.Conflict.{Reads, Writes, InConflict, in_conflict}
use Rattle.conflicts.proofs.Conflicts.{conflict-test, no-access-no-conflict}
use Rattle.race_model.specs.Race.{RaceIn}
use Rattle.race_model.specs.RaceList.{is_race}

module _ (t : Trace) (a b : ℕ) where
  -- a number that no operation has accesses nothing
  accesses-below : Reads (operation t b) ⊎ Writes (operation t b) → b < size t
  accesses-below s = elim (less? b (size t)) [ inl l ↦ l | inr l ↦ absurd (nothing l s) ]
    where
      nothing : size t ≤ b → Reads (operation t b) ⊎ Writes (operation t b) → ⊥
      nothing l s = elim (rw missing at s) [ inl h ↦ h | inr h ↦ h ]
        where
          missing : operation t b ≡ no_operation
          missing = get_or-eq_default t.operations no_operation l

  -- what the test asks
  abbrev Tested : Type 0
  Tested = (a < b) × (InConflict (operation t a) (operation t b) × Unordered t a b)

  pub race-test : WorkersKnown t → (is_race t a b ≡ true) ↔ RaceIn t a b
  unfolding is_race
  race-test w = Iff.trans
      (both-pass (ltb a b) _ (ltb-true a b, lt-ltb a b)
      (both-pass (in_conflict (operation t a) (operation t b)) (unordered_in t a b)
      (conflict-test (operation t a) (operation t b))
      (unordered-test w a b)))
      (forth, back)
    where
      forth : Tested → RaceIn t a b
      forth (l, (c, u)) =
          record {
            conflict = record { ascending = l; operations = accesses-below c.second_accesses; are_in_conflict = c };
            unordered = u;
          }

      back : RaceIn t a b → Tested
      back r = (r.conflict.ascending, (r.conflict.are_in_conflict, r.unordered))

  -- the first two of its questions
  first-asked : is_race t a b ≡ true → (a < b) × (in_conflict (operation t a) (operation t b) ≡ true)
  unfolding is_race
  first-asked e =
      let (ascend, rest) = both_true (ltb a b) _ e in
      (ltb-true a b ascend, (both_true (in_conflict (operation t a) (operation t b)) _ rest).0)

  pub race-ascending : is_race t a b ≡ true → a < b
  race-ascending e = (first-asked e).0

  pub race-below : is_race t a b ≡ true → b < size t
  race-below e = accesses-below ((conflict-test (operation t a) (operation t b)).0 (first-asked e).1).second_accesses

  pub no-race-ahead : b ≤ a → is_race t a b ≡ false
  no-race-ahead l = never-passes (is_race t a b) (λ e. omega (arith, race-ascending e))

  pub no-race-outside : size t ≤ b → is_race t a b ≡ false
  no-race-outside l = never-passes (is_race t a b) (λ e. omega (arith, race-below e))

-- ---- as the code comes to it

module _ (t : Trace) (a b : ℕ) where
  -- two operations of one worker are ordered
  pub race-same-worker : WorkersKnown t → a < b → worker_of t a ≡ worker_of t b → is_race t a b ≡ false
  race-same-worker w l e =
      never-passes (is_race t a b) (λ i. ((race-test t a b w).0 i).unordered.not_before (earlier-must-precede t e l))

  pub race-no-conflict : in_conflict (operation t a) (operation t b) ≡ false → is_race t a b ≡ false
  unfolding is_race
  race-no-conflict e = rw e (and-false (ltb a b))

  pub race-ordered : must_precede_in t a b ≡ true → is_race t a b ≡ false
  unfolding is_race
  race-ordered e = rw e (rw (and-false (in_conflict (operation t a) (operation t b))) (and-false (ltb a b)))

  -- the last question
  pub race-last : a < b → in_conflict (operation t a) (operation t b) ≡ true → must_precede_in t a b ≡ false
      → is_race t a b ≡ not (must_precede_in t b a)
  unfolding is_race
  race-last l e i = rw (lt-ltb a b l, e, i)

  -- an operation that is no Read or Write races with none
  pub race-access : is_access (operation t a).kind ≡ false → is_race t a b ≡ false
  race-access e = race-no-conflict (no-access-no-conflict (operation t a) (operation t b) e)
