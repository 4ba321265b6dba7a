-- One rule worked out.
-- Follows: document 01, "Examples", trace B, and "Errors seen in older checkers", its first line.
-- Differs: nowhere; the rule is written for this trace alone. Worker 0 writes (operation 0) and posts (1), worker 1
-- posts the same event (2), worker 2 waits for it (3) and reads (4). Whichever Post a recorded run shows first, the
-- write need not precede the read.
use Rattle.std.specs.Prelude.{◌≡◌, refl, true, false, not, ◌&&◌, ◌||◌, cond, List, [], ◌∷◌, ℕ, ◌%◌, eqb, ltb}
use Rattle.basics.specs.Membership.{mem}
use Rattle.runs.specs.Rule.{Rule, without}
use Rattle.runs.specs.Steps.{is_run}
use Rattle.runs.specs.Greedy.{greedy, must_precede, holding_back}
use Rattle.runs.specs.Workers.{turn, count, earlier, canonical}

abbrev pub worker_of : ℕ → ℕ
worker_of x = cond (ltb x 2) 0 (cond (ltb x 3) 1 2)

abbrev pub two_posts : Rule
two_posts = record { size = 5; may = λ d x. turn worker_of d x && (not (eqb x 3) || (mem 1 d || mem 2 d)) }

abbrev pub order : List ℕ
order = canonical worker_of 5 3

-- Two workers in turn, as the numbers of another file might go: file order between workers means nothing.
abbrev pub parity : ℕ → ℕ
parity x = x % 2

-- worker by worker; operation 2 after its worker's operation 0, whether or not worker 1's operation 1 is done
pub worker_tests : (canonical parity 5 2 ≡ 0 ∷ 2 ∷ 4 ∷ 1 ∷ 3 ∷ [])
    × (turn parity (0 ∷ []) 2 ≡ true)
    × (turn parity (1 ∷ []) 2 ≡ false)
    × (earlier parity 4 ≡ 2)
worker_tests = (refl, refl, refl, refl)

-- One Post that two workers wait for: once it is let in, both can go on, and the lower-numbered one does.
abbrev pub one_post : Rule
one_post = record { size = 3; may = λ d x. eqb x 0 || mem 0 d }

-- Runs: the empty list, and the Wait after worker 1's Post. No runs: an operation twice, a number too high, the Wait
-- first, worker 0's Post before its Write.
pub run_tests : (is_run two_posts [] ≡ true)
    × (is_run two_posts (2 ∷ 3 ∷ []) ≡ true)
    × (is_run two_posts (0 ∷ 0 ∷ []) ≡ false)
    × (is_run two_posts (5 ∷ []) ≡ false)
    × (is_run two_posts (3 ∷ 2 ∷ []) ≡ false)
    × (is_run two_posts (1 ∷ 0 ∷ []) ≡ false)
run_tests = (refl, refl, refl, refl, refl, refl)

-- the rows of 0 and of 4: how many operations of workers 0, 1 and 2 their largest runs hold; what comes before 4
pub count_tests : (count worker_of 0 (greedy (without two_posts 0) order) ≡ 0)
    × (count worker_of 1 (greedy (without two_posts 0) order) ≡ 1)
    × (count worker_of 2 (greedy (without two_posts 0) order) ≡ 2)
    × (count worker_of 0 (greedy (without two_posts 4) order) ≡ 2)
    × (count worker_of 1 (greedy (without two_posts 4) order) ≡ 1)
    × (count worker_of 2 (greedy (without two_posts 4) order) ≡ 1)
    × (earlier worker_of 4 ≡ 1)
count_tests = (refl, refl, refl, refl, refl, refl, refl)

-- the largest runs without 0 and without 4; must 0 precede 4, 1 precede 3, 2 precede 3, 3 precede 4; 0 held back, 4
-- held back, and the one Post held back
pub order_tests : (greedy (without two_posts 0) order ≡ 2 ∷ 3 ∷ 4 ∷ [])
    × (greedy (without two_posts 4) order ≡ 0 ∷ 1 ∷ 2 ∷ 3 ∷ [])
    × (must_precede two_posts order 0 4 ≡ false)
    × (must_precede two_posts order 1 3 ≡ false)
    × (must_precede two_posts order 2 3 ≡ false)
    × (must_precede two_posts order 3 4 ≡ true)
    × (holding_back two_posts order 0 ≡ 2 ∷ 3 ∷ 4 ∷ 0 ∷ 1 ∷ [])
    × (holding_back two_posts order 4 ≡ 0 ∷ 1 ∷ 2 ∷ 3 ∷ 4 ∷ [])
    × (holding_back one_post (0 ∷ 1 ∷ 2 ∷ []) 0 ≡ 0 ∷ 1 ∷ 2 ∷ [])
order_tests = (refl, refl, refl, refl, refl, refl, refl, refl, refl)
