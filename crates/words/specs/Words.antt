-- Sets of the numbers below 32, as words: i is in the set where bit i is 1.
-- Follows: nothing in the documents. A means.
use Rattle.std.specs.Prelude.{Bool, cond, not, ◌&&◌, ◌||◌, List, [], ◌∷◌, map, ◌≡◌, refl, ℕ, zero, suc, ◌+◌, ◌/◌, ◌%◌, ◌^◌, ◌<◌, eqb, ltb}
use Rattle.words.specs.Passing.{passing}

-- is i in the set x?
unfoldable pub is_in : ℕ → ℕ → Bool
is_in x i = eqb (x / 2 ^ i % 2) 1

-- ---- a set made of others

-- r is x with i
pub record With (x i r : ℕ) : Type 0 where
  pub each : (k : ℕ) → is_in r k ≡ is_in x k || eqb k i

-- r is x without i
pub record Without (x i r : ℕ) : Type 0 where
  pub each : (k : ℕ) → is_in r k ≡ is_in x k && not (eqb k i)

-- r holds what is in both x and y
pub record Common (x y r : ℕ) : Type 0 where
  pub each : (k : ℕ) → is_in r k ≡ is_in x k && is_in y k

-- r holds what is in one of x and y
pub record Joined (x y r : ℕ) : Type 0 where
  pub each : (k : ℕ) → is_in r k ≡ is_in x k || is_in y k

-- r holds the numbers above i
pub record Above (i r : ℕ) : Type 0 where
  pub each : (k : ℕ) → k < 32 → is_in r k ≡ ltb i k

-- ---- a set and a list

-- the numbers of a list, each raised by `first`
abbrev pub raised : ℕ → List ℕ → List ℕ
raised first l = map (λ i. first + i) l

-- ---- a set and a test

-- the numbers below n that pass a test, as a set
unfoldable pub word_of : (ℕ → Bool) → ℕ → ℕ
word_of f zero = 0
word_of f (suc n) = word_of f n + cond (f n) (2 ^ n) 0

-- 13 is {0, 2, 3}
pub worked : passing (is_in 13) 32 ≡ 0 ∷ 2 ∷ 3 ∷ []
unfolding is_in passing
worked = refl

pub worked_back : word_of (is_in 13) 32 ≡ 13
unfolding is_in word_of
worked_back = refl
