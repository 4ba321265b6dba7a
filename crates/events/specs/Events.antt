-- The set of posted events, as four words of 64 bits.
-- Follows: document 01, "Runs" ("256 events, each set or reset") and "Code places and their forms" ("four u64 words;
-- posting sets a bit by shift and mask, waiting tests one").
-- Differs: nowhere. A means: proofs/EventBits shows that after posting e, d is set exactly if d is e or it was.
use Rattle.std.specs.Prelude.{Bool, not, List, ℕ, ◌/◌, ◌%◌, ◌^◌, eqb, get_or, set}
use Rattle.std.specs.Int.Bits.{bit_and, bit_or}

-- event e is bit e % 64 of word e / 64
unfoldable pub is_posted : List ℕ → ℕ → Bool
is_posted events e = not (eqb (bit_and (get_or events (e / 64) 0) (2 ^ (e % 64))) 0)

unfoldable pub with_post : List ℕ → ℕ → List ℕ
with_post events e = set events (e / 64) (bit_or (get_or events (e / 64) 0) (2 ^ (e % 64)))
