-- A number in decimal.
-- Follows: document 01, "Trace file": bytes are shown in hexadecimal, "all else in decimal".
-- Differs: nowhere. No leading zeros; 0 is one digit.
use Rattle.std.specs.Prelude.{true, false, List, [], ◌∷◌, ◌++◌, ◌≡◌, refl, ℕ, zero, suc, ◌+◌, ◌/◌, ◌%◌, ltb}
use Rattle.text.specs.Ascii.{ascii}

-- the ASCII code of a digit below 10
abbrev pub digit : ℕ → ℕ
digit d = 0x30 + d

-- in at most `most` digits
unfoldable pub decimal_within : ℕ → ℕ → List ℕ
decimal_within zero x = []
decimal_within (suc most) x = elim (ltb x 10) [
  | true ↦ digit x ∷ []
  | false ↦ decimal_within most (x / 10) ++ digit (x % 10) ∷ []
]

-- no number has more digits than its successor counts; its equations are `decimal-below` and `decimal-from` of
-- proofs/Decimals
unfoldable pub decimal : ℕ → List ℕ
decimal x = decimal_within (suc x) x

pub worked : (decimal 0 ≡ ascii "0") × (decimal 9 ≡ ascii "9") × (decimal 10 ≡ ascii "10")
    × (decimal 1024 ≡ ascii "1024") × (decimal 491520 ≡ ascii "491520") × (decimal 4294967295 ≡ ascii "4294967295")
unfolding decimal decimal_within
worked = (refl, refl, refl, refl, refl, refl)
