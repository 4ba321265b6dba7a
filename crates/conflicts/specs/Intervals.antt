-- Intervals of numbers, and when two of them have a number in common.
-- Follows: document 01, "Trace file": "number = first cell, length = how many cells"; "Errors seen in older checkers":
-- first + count is not a number of the interval.
-- Differs: nowhere. proofs/Intervals shows that the test holds exactly if there is a common number.
use Rattle.std.specs.Prelude.{Bool, true, false, ◌&&◌, ◌≡◌, refl, ℕ, ◌+◌, ◌<◌, ◌≤◌, leb, ltb}

-- x is one of the `count` numbers from `first` on
pub record InInterval (first count x : ℕ) : Type 0 where
  pub from : first ≤ x
  pub below : x < first + count

-- a number of both intervals
pub record Common (first count other other-count : ℕ) : Type 0 where
  pub number : ℕ
  pub in_first : InInterval first count number
  pub in_second : InInterval other other-count number

-- neither interval is empty, and each starts below the end of the other
unfoldable pub overlap : ℕ → ℕ → ℕ → ℕ → Bool
overlap first count other other-count =
    leb 1 count && (leb 1 other-count && (ltb first (other + other-count) && ltb other (first + count)))

-- 20 to 22 against 23, 22, 20, 19; against none, in the middle; against all of 32 bits
pub worked : (overlap 20 3 23 1 ≡ false)
    × (overlap 20 3 22 1 ≡ true)
    × (overlap 20 3 20 1 ≡ true)
    × (overlap 20 3 19 1 ≡ false)
    × (overlap 20 3 21 0 ≡ false)
    × (overlap 20 3 0 4294967296 ≡ true)
unfolding overlap
worked = (refl, refl, refl, refl, refl, refl)
