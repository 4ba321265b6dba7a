-- Pairs of operations of two workers.
-- Follows: document 01, "Race list": two operations of one worker never race.
-- Differs: nowhere. Means: no call's contract speaks of these; proofs/PairCounts shows that there are no more races.
use Rattle.std.specs.Prelude.{Bool, not, ℕ, zero, suc, ◌+◌, eqb, length}
use Rattle.trace.specs.Trace.{Trace, size, worker_of}
use Rattle.words.specs.Passing.{passing}

-- is a an operation of worker q?
abbrev pub is_of : Trace → ℕ → ℕ → Bool
is_of t q a = eqb (worker_of t a) q

-- how many there are below k: for each higher operation, the lower ones that are not of its worker
unfoldable pub pairs_below : Trace → ℕ → ℕ
pairs_below t zero = 0
pairs_below t (suc k) = pairs_below t k + length (passing (λ a. not (is_of t (worker_of t k) a)) k)

-- how many there are
abbrev pub pair_count : Trace → ℕ
pair_count t = pairs_below t (size t)
