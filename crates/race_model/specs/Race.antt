-- Races of a trace, and the order in which they are listed.
-- Follows: document 01, "Race list": "A race is a pair a < b, both Read or Write, at least one a Write, with a common
-- cell, neither certain before the other."; "ascending by lower, then higher, each once".
-- Differs: nowhere. `InConflict` is in the crate `conflicts`; `Unordered`, neither certain before the other, is in
-- `model`, by report 1084's maximal valid executions. A race record is the struct of src/lib.rt.
use mathlib.Core.List.{List, Memᴰ}
use Rattle.std.specs.Prelude.{◌↔◌, ◌≡◌, ℕ, ◌<◌, length, get_or}
use Rattle.trace.specs.Trace.{Trace, size, operation}
use Rattle.model.specs.Orders.{Unordered}
use Rattle.conflicts.specs.Conflict.{InConflict}
use Rattle.race_model.specs.declared.Race.{Race}

-- a and b are a pair a < b of operations in conflict: "both Read or Write, at least one a Write, with a common cell"
pub record Conflict (t : Trace) (a b : ℕ) : Type 0 where
  pub ascending : a < b
  pub operations : b < size t
  pub are_in_conflict : InConflict (operation t a) (operation t b)

-- they race: "neither certain before the other"
pub record RaceIn (t : Trace) (a b : ℕ) : Type 0 where
  pub conflict : Conflict t a b
  pub unordered : Unordered t a b

-- "ascending by lower, then higher"
pub data Ahead (r s : Race) : Type 0 where
  lower_first : r.lower < s.lower → Ahead r s
  then_higher : r.lower ≡ s.lower → r.higher < s.higher → Ahead r s

-- each record of a list is ahead of those that stand after it, so that no record stands there twice
abbrev pub Ascending : List Race → Type 0
Ascending l = (i j : ℕ) (d : Race) → i < j → j < length l → Ahead (get_or l i d) (get_or l j d)

-- document 01: "The races stand in a lent list of race records, each with the lower and the higher operation,
-- ascending by lower, then higher, each once." A record stands in it exactly if its operations race. proofs/OnlyList
-- shows that there is one such list, and only one.
pub record RaceListOf (t : Trace) (l : List Race) : Type 0 where
  pub exactly : (r : Race) → Memᴰ r l ↔ RaceIn t r.lower r.higher
  pub ascending : Ascending l
