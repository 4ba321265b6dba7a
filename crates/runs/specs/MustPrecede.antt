-- The order of two operations that is certain.
-- Follows: report 1084, Definition 2 (must-have-happened-before: b is not in MVE(a)); document 01, "Order table and
-- order".
-- Differs from Definition 2 as document 01 does: there an operation precedes itself, since it is not in its own
-- MVE; here the two differ.
use Rattle.std.specs.Prelude.{List, ◌≢◌, ℕ}
use Rattle.basics.specs.Membership.{◌∉◌}
use Rattle.runs.specs.Rule.{Rule}
use Rattle.runs.specs.Maximal.{MaximalWithout}

-- document 01: a is "certain before" b when "they differ and b is not in the largest run without a".
-- There is such a run (proofs/CarryOn) and each of them holds the same operations (proofs/RunsWithout), so that
-- "in none of them", as here, is "not in one of them".
pub record MustPrecede (R : Rule) (a b : ℕ) : Type 0 where
  pub differ : a ≢ b
  pub outside : (m : List ℕ) → MaximalWithout R a m → b ∉ m
