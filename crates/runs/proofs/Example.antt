-- The worked rule meets all that the theory asks of a rule, and the theory then says of all its runs what was
-- computed.
use mathlib.Core.Path.{◌≡◌, refl}
use mathlib.Core.Bool.{Bool, true, false, not, cond}
use mathlib.Core.List.{List, [], ◌∷◌}
use Prim.Native.Nat.{ℕ, ◌<◌, ◌≤◌}
use native.Mathlib.Omega.{arith}
use lib.Dec.{eqb, ltb}
use Rattle.basics.proofs.Booleans.{booleans}
use Rattle.runs.specs.Rule.{Monotone}
use Rattle.runs.specs.Run.{Complete, StandsBefore}
use Rattle.runs.specs.Maximal.{MaximalWithout}
use Rattle.runs.specs.MustPrecede.{MustPrecede}
use Rattle.runs.specs.Greedy.{Preference, holding_back}
use Rattle.runs.specs.Workers.{InTurn, Ascending, LowestFirst, HoldsBack}
use Rattle.runs.specs.Example.{worker_of, two_posts, order}
use Rattle.runs.proofs.MonotoneTests.{grows-rule, grows-fixed, grows-mem, grows-and, grows-or, grows-turn}
use Rattle.runs.proofs.ProgramOrder.{turn-in-turn}
use Rattle.runs.proofs.CanonicalOrder.{canonical-preference, canonical-ascending}
use Rattle.runs.proofs.RunSteps.{run-empty, run-test, length-complete}
use Rattle.runs.proofs.GreedyRuns.{greedy-without-maximal}
use Rattle.runs.proofs.SharedOrder.{must-precede-shared, must-precede-test}
use Rattle.runs.proofs.Rows.{must-precede-row}
use Rattle.runs.proofs.LowestWorker.{lowest-first-greedy}
use Rattle.runs.proofs.HoldingBack.{holding-back-complete, holding-back-before, holding-back-holds}

monotone : Monotone two_posts
monotone =
    grows-rule two_posts (λ x. grows-and (grows-turn worker_of x)
    (grows-or (grows-fixed (not (eqb x 3))) (grows-or (grows-mem 1) (grows-mem 2))))

pub in-turn : InTurn two_posts worker_of
in-turn = turn-in-turn worker_of (λ d x h. search booleans)

lists-all : Preference 5 order
lists-all = canonical-preference worker_of (λ x l. below (ltb x 2) (ltb x 3))
  where
    below : (b c : Bool) → cond b 0 (cond c 1 2) < 3
    below true c = omega arith
    below false true = omega arith
    below false false = omega arith

ascends : Ascending worker_of order
ascends = canonical-ascending worker_of 5 3

complete : Complete two_posts order
complete = length-complete ((run-test monotone order).0 tt) refl

-- the Wait stands before the Read in every complete run
pub wait-before-read : (s : List ℕ) → Complete two_posts s → StandsBefore 3 4 s
wait-before-read =
    (must-precede-shared monotone complete {a = 3} {b = 4} (omega arith) (omega arith) (omega arith)).0
    ((must-precede-test monotone lists-all 3 4).0 tt)

-- and in some complete run the Read stands before the Write
pub read-before-write : (s : List ℕ) × Complete two_posts s × StandsBefore 4 0 s
read-before-write = (holding_back two_posts order 0, holding-back-complete monotone lists-all complete 0, before)
  where
    before : StandsBefore 4 0 (holding_back two_posts order 0)
    before =
        holding-back-before monotone lists-all complete {a = 4} {b = 0} (omega arith) (omega arith)
        (λ p. (must-precede-test monotone lists-all 0 4).1 p)

-- the one run that lets the lowest-numbered worker go first
pub lowest-only : {s : List ℕ} → LowestFirst worker_of two_posts [] s → s ≡ 0 ∷ 1 ∷ 2 ∷ 3 ∷ 4 ∷ []
lowest-only = lowest-first-greedy ascends lists-all monotone in-turn run-empty

-- the one that holds the Write back
pub write-held-back : HoldsBack worker_of two_posts 0 (2 ∷ 3 ∷ 4 ∷ 0 ∷ 1 ∷ [])
write-held-back = holding-back-holds monotone ascends lists-all 0

-- the row of the Write counts two operations of worker 2, so the Read, its second, need not come after the Write
pub write-need-not-precede : MustPrecede two_posts 0 4 → ⊥
write-need-not-precede p = too_few ((must-precede-row monotone in-turn {a = 0} {b = 4} (omega arith) maximal).0 p)
  where
    maximal : MaximalWithout two_posts 0 (2 ∷ 3 ∷ 4 ∷ [])
    maximal = greedy-without-maximal monotone lists-all 0

    too_few : 2 ≤ 1 → ⊥
    too_few h = omega arith
