-- When two operations are in conflict.
-- Follows: document 01, "Race list": "both Read or Write, at least one a Write, with a common cell"; "Trace file":
-- "number = first cell, length = how many cells".
-- Differs: nowhere. `InConflict` is to be believed; `in_conflict`, its test, is joined to it by proofs/Conflicts.
use Rattle.std.specs.Prelude.{Bool, ◌&&◌, ◌||◌, ◌⊎◌, T}
use Rattle.trace.specs.declared.Operation.{Operation}
use Rattle.trace.specs.Trace.{is_read, is_write, is_access}
use Rattle.conflicts.specs.Intervals.{Common, overlap}

-- an operation is a Read, a Write
abbrev pub Reads : Operation → Type 0
Reads x = T (is_read x.kind)

abbrev pub Writes : Operation → Type 0
Writes x = T (is_write x.kind)

-- x and y have a common cell
abbrev pub CommonCell : Operation → Operation → Type 0
CommonCell x y = Common x.number x.length y.number y.length

-- "both Read or Write, at least one a Write, with a common cell"
pub record InConflict (x y : Operation) : Type 0 where
  pub first_accesses : Reads x ⊎ Writes x
  pub second_accesses : Reads y ⊎ Writes y
  pub one_writes : Writes x ⊎ Writes y
  pub common_cell : CommonCell x y

-- are they?
unfoldable pub in_conflict : Operation → Operation → Bool
in_conflict x y =
    is_access x.kind
    && (is_access y.kind
    && ((is_write x.kind || is_write y.kind)
    && overlap x.number x.length y.number y.length))
