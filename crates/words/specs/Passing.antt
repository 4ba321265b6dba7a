-- The numbers below a bound that pass a test.
-- Follows: nothing in the documents. A means.
use Rattle.std.specs.Prelude.{Bool, cond, List, [], ◌∷◌, ◌++◌, ◌≡◌, refl, ℕ, zero, suc, ltb}

-- the numbers below n that pass a test, ascending
unfoldable pub passing : (ℕ → Bool) → ℕ → List ℕ
passing f zero = []
passing f (suc b) = passing f b ++ cond (f b) (b ∷ []) []

-- of the numbers below 4, those above 1
pub worked : passing (ltb 1) 4 ≡ 2 ∷ 3 ∷ []
unfolding passing
worked = refl
