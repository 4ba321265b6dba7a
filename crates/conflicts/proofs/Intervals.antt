-- Two intervals overlap exactly if they have a number in common; the number behind an interval is not in it.
use mathlib.Core.Bool.{true}
use mathlib.Core.Logic.Iff
use mathlib.Core.Logic.{inl, inr, ◌↔◌}
use mathlib.Core.Path.{◌≡◌}
use native.Mathlib.Omega.{arith}
use Prim.Native.Nat.{ℕ, ◌+◌, ◌<◌, ◌≤◌}
use lib.Dec.{leb, ltb}
use borrow.Author.Tests.{leb-true, le-leb, ltb-true, lt-ltb}
use Rattle.basics.proofs.Booleans.{both-pass, less?}
use Rattle.conflicts.specs.Intervals.{InInterval, Common, overlap}

pub end-outside : (first count : ℕ) → InInterval first count (first + count) → ⊥
end-outside first count i = omega (arith, i.below)

module _ (first count other other-count : ℕ) where
  -- what the test asks
  abbrev Asked : Type 0
  Asked = (1 ≤ count) × ((1 ≤ other-count) × ((first < other + other-count) × (other < first + count)))

  asked : (overlap first count other other-count ≡ true) ↔ Asked
  unfolding overlap
  asked =
      both-pass (leb 1 count) _ (leb-true 1 count, le-leb 1 count)
      (both-pass (leb 1 other-count) _ (leb-true 1 other-count, le-leb 1 other-count)
      (both-pass (ltb first (other + other-count)) (ltb other (first + count))
      (ltb-true first (other + other-count), lt-ltb first (other + other-count))
      (ltb-true other (first + count), lt-ltb other (first + count))))

  -- the later of the two first numbers is in both
  common : Asked → Common first count other other-count
  common (some, (some-other, (l, m))) = elim (less? first other) [
    | inl h ↦ record {
      number = other;
      in_first = record { from = omega arith; below = m };
      in_second = record { from = omega arith; below = omega arith };
    }
    | inr h ↦ record {
      number = first;
      in_first = record { from = omega arith; below = omega arith };
      in_second = record { from = h; below = l };
    }
  ]

  pub overlap-common : (overlap first count other other-count ≡ true) ↔ Common first count other other-count
  overlap-common = Iff.trans asked (common, back)
    where
      back : Common first count other other-count → Asked
      back c = (
        omega (arith, c.in_first.from, c.in_first.below),
        (
          omega (arith, c.in_second.from, c.in_second.below),
          (
            omega (arith, c.in_first.from, c.in_second.below),
            omega (arith, c.in_second.from, c.in_first.below),
          ),
        ),
      )
