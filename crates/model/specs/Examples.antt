-- Three traces worked out: one in which two workers post the event that a third waits for twice, one in which a blocked
-- worker is freed by a higher-numbered one, and one without a complete run. Document 01's own examples are computed
-- from file bytes, above this crate.
-- Follows: document 01, "Runs", "Order table and order", "Two runs"; "Errors seen in older checkers".
-- Differs: nowhere.
use Rattle.std.specs.Prelude.{true, false, [], ◌∷◌, map, ◌≡◌, refl, ℕ, pos, negsuc}
use Rattle.runs.specs.Steps.{is_run}
use Rattle.trace.specs.declared.Operation.{Operation}
use Rattle.trace.specs.Trace.{Trace}
use Rattle.model.specs.Rule.{rule}
use Rattle.model.specs.Computed.{largest_run, largest_run_without, first_outside, row, must_precede_in, pair_order}
use Rattle.model.specs.Computed.{held_back_run}

abbrev pub post : ℕ → ℕ → Operation
post q e = record { worker = q; kind = 1; number = e; length = 0 }

abbrev pub wait : ℕ → ℕ → Operation
wait q e = record { worker = q; kind = 2; number = e; length = 0 }

abbrev pub read_cell : ℕ → ℕ → Operation
read_cell q c = record { worker = q; kind = 3; number = c; length = 1 }

abbrev pub write_cell : ℕ → ℕ → Operation
write_cell q c = record { worker = q; kind = 4; number = c; length = 1 }

-- 0: worker 2 waits for 5; 1: worker 0 reads cell 5; 2: worker 1 posts 5; 3: worker 0 posts 5; 4: worker 2 waits for 5;
-- 5: worker 1 posts 6
abbrev pub two_posts : Trace
two_posts =
    let l = wait 2 5 ∷ read_cell 0 5 ∷ post 1 5 ∷ post 0 5 ∷ wait 2 5 ∷ post 1 6 ∷ [] in
    record { workers = 3; operations = l }

-- Runs: nothing; a Wait after worker 1's Post; both Waits after one Post, which nothing uses up. No runs: a Wait first;
-- a Wait after a Read of cell 5 alone; worker 0's Post before its Read; worker 1's Post of 6 before its Post of 5; an
-- operation twice; a number too high.
pub run_tests : (map (is_run (rule two_posts)) ([] ∷ (2 ∷ 0 ∷ []) ∷ (2 ∷ 0 ∷ 4 ∷ []) ∷ []) ≡ true ∷ true ∷ true ∷ [])
    × (map (is_run (rule two_posts)) ((0 ∷ []) ∷ (1 ∷ 0 ∷ []) ∷ (3 ∷ []) ∷ []) ≡ false ∷ false ∷ false ∷ [])
    × (map (is_run (rule two_posts)) ((5 ∷ []) ∷ (1 ∷ 1 ∷ []) ∷ (6 ∷ []) ∷ []) ≡ false ∷ false ∷ false ∷ [])
run_tests = (refl, refl, refl)

-- the largest run, lowest-numbered worker first, and that nothing is outside it; those without 1, 2 and 3; the rows of
-- 0 and 1
pub largest_tests : (largest_run two_posts ≡ 1 ∷ 3 ∷ 2 ∷ 5 ∷ 0 ∷ 4 ∷ [])
    × (first_outside two_posts ≡ 6)
    × (largest_run_without two_posts 1 ≡ 2 ∷ 5 ∷ 0 ∷ 4 ∷ [])
    × (largest_run_without two_posts 2 ≡ 1 ∷ 3 ∷ 0 ∷ 4 ∷ [])
    × (largest_run_without two_posts 3 ≡ 1 ∷ 2 ∷ 5 ∷ 0 ∷ 4 ∷ [])
    × (row two_posts 0 ≡ 2 ∷ 2 ∷ 0 ∷ [])
    × (row two_posts 1 ≡ 0 ∷ 2 ∷ 2 ∷ [])
unfolding largest_run largest_run_without first_outside row
largest_tests = (refl, refl, refl, refl, refl, refl, refl)

-- neither Post is certain before the Wait; the Read is before the Post of its worker, the first Wait before the second;
-- the runs that hold back 1 and 0
pub order_tests : (pair_order two_posts 2 0 ≡ pos 0)
    × (pair_order two_posts 3 0 ≡ pos 0)
    × (pair_order two_posts 1 3 ≡ negsuc 0)
    × (pair_order two_posts 3 1 ≡ pos 1)
    × (pair_order two_posts 0 4 ≡ negsuc 0)
    × (held_back_run two_posts 1 ≡ 2 ∷ 5 ∷ 0 ∷ 4 ∷ 1 ∷ 3 ∷ [])
    × (held_back_run two_posts 0 ≡ 1 ∷ 3 ∷ 2 ∷ 5 ∷ 0 ∷ 4 ∷ [])
unfolding must_precede_in pair_order held_back_run
order_tests = (refl, refl, refl, refl, refl, refl, refl)

-- 0: worker 0 waits for 1; 1: worker 0 reads; 2: worker 1 writes; 3: worker 1 posts 1; 4: worker 1 writes
abbrev pub freed_later : Trace
freed_later =
    let l = wait 0 1 ∷ read_cell 0 1 ∷ write_cell 1 2 ∷ post 1 1 ∷ write_cell 1 3 ∷ [] in
    record { workers = 2; operations = l }

-- worker 0 is blocked at first; worker 1 goes on, and as soon as its Post has run, worker 0 goes first again
pub freed_tests : (largest_run freed_later ≡ 2 ∷ 3 ∷ 0 ∷ 1 ∷ 4 ∷ []) × (first_outside freed_later ≡ 5)
unfolding largest_run first_outside
freed_tests = (refl, refl)

-- 0: worker 0 reads; 1: worker 1 waits for 1; 2: worker 0 waits for 2; 3: worker 1 posts 2; 4: worker 0 posts 1
abbrev pub deadlock : Trace
deadlock =
    let l = read_cell 0 1 ∷ wait 1 1 ∷ wait 0 2 ∷ post 1 2 ∷ post 0 1 ∷ [] in
    record { workers = 2; operations = l }

-- only the Read can run; the lowest operation outside is worker 1's Wait, though worker 0 has an operation outside too
pub deadlock_tests : (largest_run deadlock ≡ 0 ∷ []) × (first_outside deadlock ≡ 1)
unfolding largest_run first_outside
deadlock_tests = (refl, refl)
