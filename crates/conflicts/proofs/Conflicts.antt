-- The test holds exactly if two operations are in conflict.
use mathlib.Core.Bool.{true, false, ◌||◌}
use mathlib.Core.Logic.Iff
use mathlib.Core.Logic.{◌⊎◌, ◌↔◌}
use mathlib.Core.Path.{◌≡◌}
use Prim.Native.Nat.{ℕ}
use lib.Dec.{T}
use Rattle.basics.proofs.Booleans.{both-pass, either-passes}
use Rattle.trace.specs.declared.Operation.{Operation}
use Rattle.trace.specs.Trace.{is_read, is_write, is_access}
use Rattle.conflicts.specs.Conflict.{Reads, Writes, CommonCell, InConflict, in_conflict}
use Rattle.conflicts.proofs.Intervals.{overlap-common}

access-test : (kind : ℕ) → (is_access kind ≡ true) ↔ (T (is_read kind) ⊎ T (is_write kind))
unfolding is_access
access-test kind = either-passes (is_read kind) (is_write kind)

module _ (x y : Operation) where
  -- what the test asks
  abbrev Asked : Type 0
  Asked = (Reads x ⊎ Writes x) × ((Reads y ⊎ Writes y) × ((Writes x ⊎ Writes y) × CommonCell x y))

  asked : (in_conflict x y ≡ true) ↔ Asked
  unfolding in_conflict
  asked =
      both-pass (is_access x.kind) _ (access-test x.kind)
      (both-pass (is_access y.kind) _ (access-test y.kind)
      (both-pass (is_write x.kind || is_write y.kind) _
      (either-passes (is_write x.kind) (is_write y.kind))
      (overlap-common _ _ _ _)))

  pub conflict-test : (in_conflict x y ≡ true) ↔ InConflict x y
  conflict-test = Iff.trans asked (forth, back)
    where
      forth : Asked → InConflict x y
      forth (first, (second, (one, cell))) =
          record { first_accesses = first; second_accesses = second; one_writes = one; common_cell = cell }

      back : InConflict x y → Asked
      back c = (c.first_accesses, (c.second_accesses, (c.one_writes, c.common_cell)))

  -- an operation that is no Read or Write is in conflict with none
  pub no-access-no-conflict : is_access x.kind ≡ false → in_conflict x y ≡ false
  unfolding in_conflict
  no-access-no-conflict e = rw e
