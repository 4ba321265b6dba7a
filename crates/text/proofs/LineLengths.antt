-- How long lines are at most, by how many digits their numbers have.
use mathlib.Core.List.{List}
use native.Mathlib.Omega.{arith}
use Prim.Native.Nat.{ℕ, suc, ◌+◌, ◌^◌, ◌<◌, ◌≤◌}
use lib.ListN.{length, length-append}
use Rattle.text.specs.Lines.{labelled, count_line, pair_line}
use Rattle.text.proofs.Decimals.{decimal-length}

-- a number below 10 ^ (k + 1), behind its label
labelled-length : (label : List ℕ) (k x : ℕ) → x < 10 ^ suc k → length (labelled label x) ≤ length label + suc k
unfolding labelled
labelled-length label k x l = simp length-append (omega (arith, decimal-length k x l))

pub pair-line-length : (first : List ℕ) (j a : ℕ) → a < 10 ^ suc j → (second : List ℕ) (k b : ℕ) → b < 10 ^ suc k
    → length (pair_line first a second b) ≤ length first + suc j + (length second + suc k) + 1
unfolding pair_line
pair-line-length first j a l second k b m =
    simp length-append (omega (arith, labelled-length first j a l, labelled-length second k b m))

pub count-line-length : (label : List ℕ) (k a : ℕ) → a < 10 ^ suc k
    → length (count_line label a) ≤ length label + suc k + 1
unfolding count_line
count-line-length label k a l = simp length-append (omega (arith, labelled-length label k a l))
