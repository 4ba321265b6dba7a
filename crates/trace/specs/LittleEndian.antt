-- Little-endian numbers of any width: what bytes are worth, and the bytes of a number.
-- Follows: document 01, "Trace file" ("a 4-byte number, a 2-byte length, both little-endian").
-- Differs: bytes that are missing count as 0. No question lets a file pass whose records are cut short.
use Rattle.std.specs.Prelude.{List, [], ◌∷◌, ℕ, zero, suc, ◌+◌, ◌*◌, ◌/◌, ◌%◌}

-- what the first `width` bytes are worth
unfoldable pub value : ℕ → List ℕ → ℕ
value zero bytes = 0
value (suc width) [] = 0
value (suc width) (b ∷ bytes) = b + 256 * value width bytes

-- the `width` bytes of a number
unfoldable pub digits : ℕ → ℕ → List ℕ
digits zero x = []
digits (suc width) x = x % 256 ∷ digits width (x / 256)
