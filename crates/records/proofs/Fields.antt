-- The bytes of a record, field by field. In order: a number of two bytes, and one of four; the record; and the same
-- with a number of four bytes as two of two, which no answer cites.
use mathlib.Core.List.{List, [], ◌∷◌, ◌++◌}
use mathlib.Core.Path.{◌≡◌, sym, ap, ap₂}
use native.Mathlib.Omega.{arith}
use Prim.Native.Nat.{ℕ, ◌+◌, ◌*◌, ◌/◌, ◌%◌, ◌<◌}
use Rattle.std.specs.Int.{w16, w32, to_le_bytes}
use lib.ListN.{get_or}
use Rattle.trace.specs.declared.Operation.{Operation}
use Rattle.trace.specs.Form.{Form, base}
use Rattle.trace.specs.LittleEndian.{digits}
use Rattle.trace.specs.Writing.{record_bytes}

little_two : (x : ℕ) → to_le_bytes w16 x ≡ digits 2 x
unfolding digits
little_two x = cc

little_four : (x : ℕ) → to_le_bytes w32 x ≡ digits 4 x
unfolding digits
little_four x =
    let third : x / 65536 % 256 ≡ x / 256 / 256 % 256 = omega arith in
    let fourth : x / 16777216 % 256 ≡ x / 256 / 256 / 256 % 256 = omega arith in
    ap₂ (λ (b d : ℕ). x % 256 ∷ x / 256 % 256 ∷ b ∷ d ∷ []) third fourth

-- in any form: the mark, worker and kind, the number, the length, and the rank
pub record-little : (f : Form) (o : Operation) (rank : ℕ) {number length : List ℕ} → number ≡ to_le_bytes w32 o.number
    → length ≡ to_le_bytes w16 o.length
    → f.first ∷ f.second ∷ o.worker ∷ o.kind
    ∷ get_or number 0 0 ∷ get_or number 1 0 ∷ get_or number 2 0 ∷ get_or number 3 0
    ∷ get_or length 0 0 ∷ get_or length 1 0 ∷ digits f.rank_width rank
    ≡ record_bytes f rank o
unfolding digits record_bytes
record-little f o rank a b =
    rw (a, b)
    (ap₂ (λ (number length : List ℕ). f.first ∷ f.second ∷ o.worker ∷ o.kind
    ∷ (number ++ (length ++ digits f.rank_width rank)))
    (little_four o.number) (little_two o.length))

-- in document 01's, which has no rank
pub base-little : (o : Operation) (rank : ℕ) {number length : List ℕ} → number ≡ to_le_bytes w32 o.number
    → length ≡ to_le_bytes w16 o.length
    → base.first ∷ base.second ∷ o.worker ∷ o.kind
    ∷ get_or number 0 0 ∷ get_or number 1 0 ∷ get_or number 2 0 ∷ get_or number 3 0
    ∷ get_or length 0 0 ∷ get_or length 1 0 ∷ []
    ≡ record_bytes base rank o
unfolding digits
base-little o rank a b = record-little base o rank a b

-- ---- two bytes at a time

pub two_bytes : (x : ℕ) → x < 65536 → x % 256 ∷ x / 256 ∷ [] ≡ digits 2 x
unfolding digits
two_bytes x l = let high : x / 256 ≡ x / 256 % 256 = omega arith in ap (λ (b : ℕ). x % 256 ∷ b ∷ []) high

low_byte : (x low high : ℕ) → x ≡ low + 256 * high → x % 256 ≡ low % 256
low_byte x low high e = omega (arith, e)

-- the low half first
four_bytes : (x : ℕ) → digits 4 x ≡ digits 2 (x % 65536) ++ digits 2 (x / 65536)
unfolding digits
four_bytes x =
    let first : x % 256 ≡ x % 65536 % 256 = omega arith in
    let parts : x / 256 ≡ x % 65536 / 256 + 256 * (x / 65536) = omega arith in
    let second : x / 256 % 256 ≡ x % 65536 / 256 % 256 = low_byte (x / 256) (x % 65536 / 256) (x / 65536) parts in
    let half : x / 256 / 256 ≡ x / 65536 = omega arith in
    ap₂ (λ (b : ℕ) (bs : List ℕ). b ∷ bs) first
    (ap₂ (λ (b : ℕ) (bs : List ℕ). b ∷ bs) second (ap (digits 2) half))

-- in any form: the mark, worker and kind, the two halves of the number, the length, and the rank
pub record-fields : (f : Form) (o : Operation) (rank : ℕ) {low high count : List ℕ} → low ≡ digits 2 (o.number % 65536)
    → high ≡ digits 2 (o.number / 65536) → count ≡ digits 2 o.length
    → f.first ∷ f.second ∷ o.worker ∷ o.kind
    ∷ get_or low 0 0 ∷ get_or low 1 0 ∷ get_or high 0 0 ∷ get_or high 1 0 ∷ get_or count 0 0 ∷ get_or count 1 0
    ∷ digits f.rank_width rank
    ≡ record_bytes f rank o
unfolding digits record_bytes
record-fields f o rank a b c =
    rw (a, b, c)
    (ap (λ (number : List ℕ). f.first ∷ f.second ∷ o.worker ∷ o.kind
    ∷ (number ++ (digits 2 o.length ++ digits f.rank_width rank)))
    (sym (four_bytes o.number)))

-- in document 01's, which has no rank
pub base-fields : (o : Operation) (rank : ℕ) {low high count : List ℕ} → low ≡ digits 2 (o.number % 65536)
    → high ≡ digits 2 (o.number / 65536) → count ≡ digits 2 o.length
    → base.first ∷ base.second ∷ o.worker ∷ o.kind
    ∷ get_or low 0 0 ∷ get_or low 1 0 ∷ get_or high 0 0 ∷ get_or high 1 0 ∷ get_or count 0 0 ∷ get_or count 1 0 ∷ []
    ≡ record_bytes base rank o
unfolding digits
base-fields o rank a b c = record-fields base o rank a b c
