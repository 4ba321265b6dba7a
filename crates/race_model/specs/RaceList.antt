-- The race list, computed: what the calls' contracts cite.
-- Follows: document 01, "Race list".
-- Differs: nowhere; proofs/OnlyList shows that it holds exactly the races of specs/Race, ascending, and
-- that no other list does.
use Rattle.std.specs.Prelude.{Bool, cond, ◌&&◌, List, [], ◌∷◌, ◌++◌, ℕ, zero, suc, ltb, length}
use Rattle.trace.specs.Trace.{Trace, size, operation}
use Rattle.model.specs.Computed.{unordered_in}
use Rattle.race_model.specs.declared.Race.{Race}
use Rattle.conflicts.specs.Conflict.{in_conflict}

-- do a and b race?
unfoldable pub is_race : Trace → ℕ → ℕ → Bool
is_race t a b = ltb a b && (in_conflict (operation t a) (operation t b) && unordered_in t a b)

-- the record of a and b
abbrev pub pair : ℕ → ℕ → Race
pair a b = record { lower = a; higher = b }

-- `before`, and behind it the races of a with the operations below b
unfoldable pub races_of : Trace → List Race → ℕ → ℕ → List Race
races_of t before a zero = before
races_of t before a (suc b) = races_of t before a b ++ cond (is_race t a b) (pair a b ∷ []) []

-- the races whose lower operation is below a
unfoldable pub races_below : Trace → ℕ → List Race
races_below t zero = []
races_below t (suc a) = races_of t (races_below t a) a (size t)

-- all races
unfoldable pub race_list : Trace → List Race
race_list t = races_below t (size t)

-- how many there are
abbrev pub race_count : Trace → ℕ
race_count t = length (race_list t)

-- what stands for a race that is not there
abbrev pub no_race : Trace → Race
no_race t = pair (size t) (size t)

-- the races that come before a pair in the list's order
abbrev pub races_before : Trace → ℕ → ℕ → List Race
races_before t a b = races_of t (races_below t a) a b
