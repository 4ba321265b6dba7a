-- Lent memory that is written from its start on.
-- Follows: document 01, "The questions": "everything past the last element written is as before".
-- Differs: nowhere.
use Rattle.std.specs.Prelude.{List, [], ◌∷◌, ◌++◌, ◌≡◌, refl, ℕ, length, drop}

-- the memory `old` after `new` is written to its front
abbrev pub written_over : {A : Type 0} → List A → List A → List A
written_over new old = new ++ drop (length new) old

-- two numbers written over three, over two, and none over two
pub worked : (written_over {A = ℕ} (1 ∷ 2 ∷ []) (7 ∷ 8 ∷ 9 ∷ []) ≡ 1 ∷ 2 ∷ 9 ∷ [])
    × (written_over {A = ℕ} (1 ∷ 2 ∷ []) (7 ∷ 8 ∷ []) ≡ 1 ∷ 2 ∷ [])
    × (written_over {A = ℕ} [] (7 ∷ 8 ∷ []) ≡ 7 ∷ 8 ∷ [])
worked = (refl, refl, refl)
