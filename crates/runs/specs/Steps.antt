-- A run told step by step, and the test of a run.
-- Follows: document 01, "Runs": a run is made by adding operations at its end.
-- Differs: what is done before, d, is read as a set; after some steps the latest stands first in it.
-- `Addable` and `Closed` say of what is done what `Maximal` says of a run. The rest are means: proofs/RunSteps shows
-- that the steps from nothing are the runs.
use Rattle.std.specs.Prelude.{Bool, true, not, ◌&&◌, List, [], ◌∷◌, ℕ, ◌<◌, T, ltb}
use Rattle.basics.specs.Membership.{◌∉◌, mem}
use Rattle.runs.specs.Rule.{Rule}

-- x can be added when d is done
pub record Addable (R : Rule) (d : List ℕ) (x : ℕ) : Type 0 where
  pub below : x < R.size
  pub new : x ∉ d
  pub allowed : T (R.may d x)

-- nothing can be added when d is done
pub record Closed (R : Rule) (d : List ℕ) : Type 0 where
  pub none : {x : ℕ} → Addable R d x → ⊥

-- the list can be carried out in its order when d is done
pub data Steps (R : Rule) : List ℕ → List ℕ → Type 0 where
  stop : {d : List ℕ} → Steps R d []
  step : {d s : List ℕ} {x : ℕ} → Addable R d x → Steps R (x ∷ d) s → Steps R d (x ∷ s)

-- what is done after the steps s from d
abbrev pub done : List ℕ → List ℕ → List ℕ
done d [] = d
done d (x ∷ s) = done (x ∷ d) s

-- the test of `Addable`
abbrev pub addable : Rule → List ℕ → ℕ → Bool
addable R d x = ltb x R.size && (not (mem x d) && R.may d x)

-- the test of `Steps`
abbrev pub steps : Rule → List ℕ → List ℕ → Bool
steps R d [] = true
steps R d (x ∷ s) = addable R d x && steps R (x ∷ d) s

-- the test of `Run`
abbrev pub is_run : Rule → List ℕ → Bool
is_run R r = steps R [] r
