-- The beginning of a run, computed: how long it is, which list it is a part of, its numbers and where it starts; and
-- the call's promise. All but the promise is a means: proofs/Beginnings shows that it is what Returned says.
-- Follows: document 01, "Parts beside the order": "The beginning of a run". The enum is that of src/lib.rt.
-- Differs: nowhere. That the two numbers differ is not asked: where one first appears before the other, they do.
use Rattle.std.specs.Prelude.{cond, List, [], ◌∷◌, ◌≡◌, refl, ℕ, suc, ◌+◌, eqb, ltb, length, take}
use Rattle.beginning.specs.declared.Prefix.{Prefix}
use Rattle.beginning.specs.declared.Prefix.TheVariants.{OfFirst, OfSecond}
use Rattle.beginning.specs.Returned.{Part, of_first, of_second}

-- the index of the first appearance of x, or the list's length where it does not appear
unfoldable pub first_index : List ℕ → ℕ → ℕ
first_index [] x = 0
first_index (y ∷ l) x = cond (eqb y x) 0 (suc (first_index l x))

-- how long the list's beginning is, and 0 where it has none
unfoldable pub beginning_length : List ℕ → ℕ → ℕ → ℕ
beginning_length list chosen other =
    let c = first_index list chosen in
    let o = first_index list other in
    cond (ltb c o) (cond (ltb o (length list)) (c + 1) 0) 0

-- which list, and how long the part is
unfoldable pub prefix_of : List ℕ → List ℕ → ℕ → ℕ → Prefix
prefix_of first second chosen other =
    let m = beginning_length first chosen other in
    let n = beginning_length second chosen other in
    cond (ltb 0 m) (OfFirst m) (cond (ltb 0 n) (OfSecond n) (OfFirst 0))

-- the part: which list, and the numbers
abbrev pub part_of : List ℕ → List ℕ → Prefix → Part
part_of first second (OfFirst n) = of_first (take n first)
part_of first second (OfSecond n) = of_second (take n second)

-- the part that the call returns
abbrev pub beginning_of : List ℕ → List ℕ → ℕ → ℕ → Part
beginning_of first second chosen other = part_of first second (prefix_of first second chosen other)

-- which list a part is of, and how long it is
abbrev pub as_prefix : Part → Prefix
as_prefix (of_first part) = OfFirst (length part)
as_prefix (of_second part) = OfSecond (length part)

abbrev pub numbers_of : Part → List ℕ
numbers_of (of_first part) = part
numbers_of (of_second part) = part

-- where a part starts: where its list does. A pointer is a block and the place in it
abbrev pub start_of : ℕ × ℕ → ℕ × ℕ → Part → ℕ × ℕ
start_of at_first at_second (of_first part) = at_first
start_of at_first at_second (of_second part) = at_second

-- the call's promise, for any two lists and any two numbers: what it returns holds `numbers` and starts at `start`
pub record BeginningCall (first second : List ℕ) (chosen other : ℕ) (at_first at_second : ℕ × ℕ) (numbers : List ℕ)
    (start : ℕ × ℕ) : Type 0 where
  pub holds : numbers ≡ numbers_of (beginning_of first second chosen other)
  pub starts : start ≡ start_of at_first at_second (beginning_of first second chosen other)

pub worked :
    -- `other` stands before `chosen` in the first list, and after it in the second
    (beginning_of (7 ∷ 8 ∷ 9 ∷ []) (7 ∷ 9 ∷ 6 ∷ 8 ∷ []) 9 8 ≡ of_second (7 ∷ 9 ∷ []))
    × (prefix_of (7 ∷ 8 ∷ 9 ∷ []) (7 ∷ 9 ∷ 6 ∷ 8 ∷ []) 9 8 ≡ OfSecond 2)
    -- both lists have a beginning
    × (beginning_of (3 ∷ 5 ∷ []) (4 ∷ 3 ∷ 5 ∷ []) 3 5 ≡ of_first (3 ∷ []))
    -- `chosen` stands twice before `other`
    × (beginning_of (3 ∷ 4 ∷ 3 ∷ 5 ∷ []) [] 3 5 ≡ of_first (3 ∷ []))
    -- `other` stands before and after `chosen`; only in the other list; the two numbers are equal
    × (beginning_of (5 ∷ 3 ∷ 5 ∷ []) [] 3 5 ≡ of_first [])
    × (beginning_of (3 ∷ []) (5 ∷ []) 3 5 ≡ of_first [])
    × (beginning_of (3 ∷ 3 ∷ []) (3 ∷ 3 ∷ []) 3 3 ≡ of_first [])
    -- two empty lists
    × (prefix_of [] [] 3 5 ≡ OfFirst 0)
unfolding first_index beginning_length prefix_of
worked = (refl, refl, refl, refl, refl, refl, refl, refl)
