-- A trace: a worker count and a list of operations.
-- Follows: document 01, "Trace file". An operation is the struct of src/lib.rt: worker, kind, number, length.
-- Differs: kinds are their numbers, 1 Post, 2 Wait, 3 Read, 4 Write, since a record may hold any; nothing here says
-- that an operation is one that the questions let pass (Writing has that, as `WellFormed`).
use Rattle.std.specs.Prelude.{Bool, ◌||◌, cond, List, [], ◌∷◌, ℕ, suc, eqb, length, get_or, take}
use Rattle.trace.specs.declared.Operation.{Operation}

-- the worker count p, and the operations in file order; "the file order between workers means nothing", it only
-- numbers the operations
pub record Trace : Type 0 where
  pub workers : ℕ
  pub operations : List Operation

-- document 01: n
abbrev pub size : Trace → ℕ
size t = length t.operations

-- what stands for an operation that is not there
abbrev pub no_operation : Operation
no_operation = record { worker = 0; kind = 0; number = 0; length = 0 }

-- operation k; numbered from 0 in file order
abbrev pub operation : Trace → ℕ → Operation
operation t k = get_or t.operations k no_operation

-- the worker of operation k
abbrev pub worker_of : Trace → ℕ → ℕ
worker_of t k = (operation t k).worker

-- worker q's operations, in its program order: records of one worker stand in its program order
unfoldable pub of_worker : ℕ → List Operation → List Operation
of_worker q [] = []
of_worker q (o ∷ rest) = cond (eqb o.worker q) (o ∷ of_worker q rest) (of_worker q rest)

-- the rank of an operation that stands in the file after those of `before`
abbrev pub rank_after : List Operation → Operation → ℕ
rank_after before o = suc (length (of_worker o.worker before))

-- document 01: "an operation's rank is its place in its worker, from 1"
abbrev pub rank : Trace → ℕ → ℕ
rank t k = rank_after (take k t.operations) (operation t k)

-- the kinds
abbrev pub is_post : ℕ → Bool
is_post kind = eqb kind 1

abbrev pub is_wait : ℕ → Bool
is_wait kind = eqb kind 2

abbrev pub is_read : ℕ → Bool
is_read kind = eqb kind 3

abbrev pub is_write : ℕ → Bool
is_write kind = eqb kind 4

-- Post or Wait: the number is an event
unfoldable pub is_sync : ℕ → Bool
is_sync kind = is_post kind || is_wait kind

-- Read or Write: the number is the first cell, the length how many cells; "cells are common to all workers"
unfoldable pub is_access : ℕ → Bool
is_access kind = is_read kind || is_write kind
