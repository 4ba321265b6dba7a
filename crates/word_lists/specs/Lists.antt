-- The numbers of a set, listed in an array.
-- Follows: nothing in the documents. A means.
use Rattle.std.specs.Prelude.{List, ◌++◌, ◌≡◌, ℕ, ◌+◌, ◌≤◌, length, take}
use Rattle.words.specs.Passing.{passing}
use Rattle.words.specs.Words.{is_in, raised}

-- room for a word's numbers from place `at` on, in an array that holds no more than is below `first`
pub record Room (first at : ℕ) (row : List ℕ) : Type 0 where
  pub ahead : at ≤ first
  pub few : first + 32 ≤ 1024
  pub long : length row ≡ 1024

-- room for eight numbers from place `at` on
pub record ByteRoom (first at : ℕ) : Type 0 where
  pub few : first + 8 ≤ 1024
  pub inside : at + 8 ≤ 1024

-- the numbers of x that are below `bits`, raised by `first`, stand from place `at` on in row', and behind them is place
-- `end`
pub record Listed (x bits first at : ℕ) (row row' : List ℕ) (end : ℕ) : Type 0 where
  pub long : length row' ≡ 1024
  pub counted : end ≡ at + length (passing (is_in x) bits)
  pub front : take end row' ≡ take at row ++ raised first (passing (is_in x) bits)
