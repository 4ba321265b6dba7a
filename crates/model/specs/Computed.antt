-- Largest runs, rows, orders and held-back runs of a trace, computed: what the contracts of the calls cite.
-- Follows: document 01, "The questions" (10's place), "Order table and order", "Two runs".
-- Differs: nowhere; what each of them means, by specs/Runs, LargestRuns, Orders and Moves, is shown in proofs/.
use Rattle.std.specs.Prelude.{Bool, cond, not, ◌&&◌, List, [], ◌∷◌, ◌++◌, ℕ, zero, suc, ℤ, pos, negsuc}
use Rattle.basics.specs.Membership.{mem}
use Rattle.runs.specs.Rule.{without}
use Rattle.runs.specs.Greedy.{greedy, must_precede, holding_back}
use Rattle.runs.specs.Workers.{count}
use Rattle.trace.specs.Trace.{Trace, size, worker_of}
use Rattle.model.specs.Rule.{rule, order}

-- the largest run of the trace
unfoldable pub largest_run : Trace → List ℕ
largest_run t = greedy (rule t) (order t)

-- the largest run without operation a
unfoldable pub largest_run_without : Trace → ℕ → List ℕ
largest_run_without t a = greedy (without (rule t) a) (order t)

-- the first of `left` numbers from k on that is not in the list; the number behind them where all are
abbrev pub first_missing : List ℕ → ℕ → ℕ → ℕ
first_missing r k zero = k
first_missing r k (suc left) = let later = first_missing r (suc k) left in cond (mem k r) later k

-- the lowest operation outside the largest run; the size of the trace where there is none
unfoldable pub first_outside : Trace → ℕ
first_outside t = first_missing (largest_run t) 0 (size t)

-- how many operations of each of the workers below q the list holds
abbrev pub counts_of : Trace → List ℕ → ℕ → List ℕ
counts_of t r zero = []
counts_of t r (suc q) = counts_of t r q ++ count (worker_of t) q r ∷ []

-- document 01: "the row of operation k": "entry q counts worker q's operations in the largest run without k"
unfoldable pub row : Trace → ℕ → List ℕ
row t k = counts_of t (largest_run_without t k) t.workers

-- document 01: is a "certain before" b?
unfoldable pub must_precede_in : Trace → ℕ → ℕ → Bool
must_precede_in t a b = must_precede (rule t) (order t) a b

-- document 01: "Is neither certain before the other?"
abbrev pub unordered_in : Trace → ℕ → ℕ → Bool
unordered_in t a b = not (must_precede_in t a b) && not (must_precede_in t b a)

-- document 01: "−1 if the first is certain before the second, +1 if the second is certain before the first, 0 if
-- neither"
unfoldable pub pair_order : Trace → ℕ → ℕ → ℤ
pair_order t a b =
    let backward = must_precede_in t b a in
    cond (must_precede_in t a b) (negsuc 0) (cond backward (pos 1) (pos 0))

-- document 01, "Two runs": the run that holds b back
unfoldable pub held_back_run : Trace → ℕ → List ℕ
held_back_run t b = holding_back (rule t) (order t) b
