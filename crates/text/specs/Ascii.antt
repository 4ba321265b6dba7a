-- A text as bytes.
-- Follows: ASCII. Differs: nowhere, for the characters of ASCII; of any other the result is its code, which need be no
-- byte.
use Rattle.std.specs.Prelude.{List, [], ◌∷◌, ◌≡◌, refl, ℕ}
use Prim.Native.Char.{code}
use Prim.Native.String.{String, [] as end, ◌∷◌ as ◌then◌}

-- the code of each character
abbrev pub ascii : String → List ℕ
ascii end = []
ascii (c then rest) = code c ∷ ascii rest

-- letters, a space, a digit and a line's end
pub worked : ascii "ops 7\n" ≡ 0x6_f ∷ 0x70 ∷ 0x73 ∷ 0x20 ∷ 0x37 ∷ 0x0_a ∷ []
worked = refl
