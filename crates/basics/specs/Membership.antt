-- Lists of numbers. An operation is its number, and a run a list of them; refusals have numbers too.
-- Follows: document 01, "Trace file" (operations are numbered from 0) and "Runs" ("different operations",
-- "contains", "its set is unique"), of which it says in types what they mean of lists.
-- Differs: nowhere. `◌∈◌` is the library's `List.Memᴰ`: a place at which the operation stands. `Different` says
-- what the library's `Nodup` says pair by pair; `count_if` counts in the numbers that contracts use, which the
-- library's does not.
use Rattle.std.specs.Prelude.{Bool, true, false, ◌&&◌, ◌||◌, cond, ℕ, zero, suc, eqb}
use mathlib.Core.List.{List, [], ◌∷◌, Memᴰ}

infix 50 ◌∈◌ ◌∉◌ ◌⊆◌
-- x stands in l
abbrev pub ◌∈◌ : ℕ → List ℕ → Type 0
x ∈ l = Memᴰ x l

-- x does not stand in l
abbrev pub ◌∉◌ : ℕ → List ℕ → Type 0
x ∉ l = x ∈ l → ⊥

-- whatever stands in d stands in e
pub record ◌⊆◌ (d e : List ℕ) : Type 0 where
  pub all : {x : ℕ} → x ∈ d → x ∈ e

-- the same operations, in whatever order
pub record SameOperations (d e : List ℕ) : Type 0 where
  pub forth : d ⊆ e
  pub back : e ⊆ d

-- no operation stands twice
pub data Different : List ℕ → Type 0 where
  empty : Different []
  fresh : {x : ℕ} {l : List ℕ} → x ∉ l → Different l → Different (x ∷ l)

-- the operations numbered below n
abbrev pub up_to : ℕ → List ℕ
up_to zero = []
up_to (suc n) = n ∷ up_to n

-- how many places of the list pass the test
abbrev pub count_if : (ℕ → Bool) → List ℕ → ℕ
count_if p [] = 0
count_if p (x ∷ l) = let k = count_if p l in cond (p x) (suc k) k

-- the test of `◌∈◌`
abbrev pub mem : ℕ → List ℕ → Bool
mem x [] = false
mem x (y ∷ l) = eqb x y || mem x l

-- does every operation of the list pass the test?
abbrev pub all_of : (ℕ → Bool) → List ℕ → Bool
all_of p [] = true
all_of p (x ∷ l) = p x && all_of p l

-- does some operation of the list?
abbrev pub any_of : (ℕ → Bool) → List ℕ → Bool
any_of p [] = false
any_of p (x ∷ l) = p x || any_of p l
