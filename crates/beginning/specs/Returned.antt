-- The beginning of a run: which part of which list the call returns.
-- Follows: document 01, "Parts beside the order": "The beginning of a run".
-- Differs: nowhere. The lists are any numbers, in any order, repeated or not; both may be the same list, or empty.
use Rattle.std.specs.Prelude.{List, [], ◌∷◌, ◌++◌, ◌≢◌, ◌≡◌, ℕ}
use Rattle.basics.specs.Membership.{◌∈◌, ◌∉◌}

-- document 01: "the part of the .. list that ends with the chosen number's first appearance, if the two numbers differ,
-- the other appears after it and not before it"
pub record BeginningOf (list : List ℕ) (chosen other : ℕ) (part : List ℕ) : Type 0 where
  pub before : List ℕ
  pub rest : List ℕ
  pub split : list ≡ before ++ (chosen ∷ rest)
  pub ends : part ≡ before ++ chosen ∷ []
  pub first_appearance : chosen ∉ before
  pub differ : chosen ≢ other
  pub after : other ∈ rest
  pub not_before : other ∉ before

-- the list has no such part
abbrev pub NoBeginning : List ℕ → ℕ → ℕ → Type 0
NoBeginning list chosen other = (part : List ℕ) → BeginningOf list chosen other part → ⊥

-- a part of one of the two lists, from that list's start: which list, and the numbers
pub data Part : Type 0 where
  of_first : List ℕ → Part
  of_second : List ℕ → Part

-- document 01: that part of the first list; "failing that, the same part of the second list; failing both, the empty
-- part of the first list, at its start"
pub data Returned (first second : List ℕ) (chosen other : ℕ) : Part → Type 0 where
  by_first : {part : List ℕ} → BeginningOf first chosen other part → Returned first second chosen other (of_first part)
  by_second : {part : List ℕ} → NoBeginning first chosen other → BeginningOf second chosen other part
      → Returned first second chosen other (of_second part)
  by_neither : NoBeginning first chosen other → NoBeginning second chosen other
      → Returned first second chosen other (of_first [])
