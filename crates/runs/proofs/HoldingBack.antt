-- The run that holds b back (document 01, "Two runs"): the largest run without b, then on to the end with b
-- allowed. In order: it is complete, and a stands before b in it unless b must precede a; it is the run of document
-- 01's rule, and the only one.
use mathlib.Core.Path.{◌≡◌, refl, sym, ap}
use mathlib.Core.List.{List, [], ◌++◌}
use mathlib.Core.Logic.{◌≢◌}
use Prim.Native.Nat.{ℕ, ◌<◌}
use Rattle.basics.specs.Membership.{◌∈◌}
use Rattle.basics.proofs.Members.{in-by-contradiction, in_rest}
use Rattle.runs.specs.Rule.{Rule, Monotone, without}
use Rattle.runs.specs.Run.{Run, Complete, StandsBefore}
use Rattle.runs.specs.Maximal.{Maximal, MaximalWithout}
use Rattle.runs.specs.MustPrecede.{MustPrecede}
use Rattle.runs.specs.Steps.{done}
use Rattle.runs.specs.Greedy.{Preference, greedy_from, greedy, holding_back}
use Rattle.runs.specs.Workers.{InTurn, Ascending, HoldsBack}
use Rattle.runs.proofs.ProgramOrder.{without-in-turn}
use Rattle.runs.proofs.RunSteps.{run-empty}
use Rattle.runs.proofs.MaximalRuns.{maximal-complete}
use Rattle.runs.proofs.RunsWithout.{without-monotone}
use Rattle.runs.proofs.GreedyRuns.{greedy-from-maximal, greedy-without-maximal}
use Rattle.runs.proofs.Before.{before-append}
use Rattle.runs.proofs.SharedOrder.{must-precede-outside}
use Rattle.runs.proofs.LowestWorker.{greedy-lowest-first, lowest-first-greedy}

module _ {R : Rule} (mono : Monotone R) {order : List ℕ} (all : Preference R.size order) where
  pub holding-back-maximal : (b : ℕ) → Maximal R (holding_back R order b)
  holding-back-maximal b = greedy-from-maximal mono all (greedy-without-maximal mono all b).is_a_run

  module _ {c : List ℕ} (complete : Complete R c) where
    pub holding-back-complete : (b : ℕ) → Complete R (holding_back R order b)
    holding-back-complete b = maximal-complete mono (holding-back-maximal b) complete

    pub holding-back-before : {a b : ℕ} → b < R.size → a ≢ b → (MustPrecede R b a → ⊥)
        → StandsBefore a b (holding_back R order b)
    holding-back-before {a} {b} l d n = before-append first last
      where
        r : List ℕ
        r = greedy (without R b) order

        maximal : MaximalWithout R b r
        maximal = greedy-without-maximal mono all b

        first : a ∈ r
        first = in-by-contradiction a r (λ m. n ((must-precede-outside mono (λ e. d (sym e)) maximal).1 m))

        last : b ∈ greedy_from R order R.size (done [] r)
        last = in_rest r ((holding-back-complete b).holds b l) maximal.lacks

-- Where the order ascends by worker, it is the run of document 01's rule: it holds b back, and it is the only one
-- that does.
module _ {R : Rule} {worker : ℕ → ℕ} (mono : Monotone R) {order : List ℕ}
    (up : Ascending worker order) (all : Preference R.size order) where
  largest-run : (b : ℕ) → Run R (greedy (without R b) order)
  largest-run b = (greedy-without-maximal mono all b).is_a_run

  pub holding-back-holds : (b : ℕ) → HoldsBack worker R b (holding_back R order b)
  holding-back-holds b =
      record {
        without_b = greedy (without R b) order;
        on = greedy_from R order R.size (done [] (greedy (without R b) order));
        parts = refl;
        other_than_b = greedy-lowest-first up all (without-monotone mono b) run-empty;
        to_the_end = greedy-lowest-first up all mono (largest-run b);
      }

  pub holds-back-unique : InTurn R worker → (b : ℕ) {r : List ℕ} → HoldsBack worker R b r → r ≡ holding_back R order b
  holds-back-unique turn b {r} h = rw (h.parts, ← second) (ap (λ (l : List ℕ). l ++ h.on) first)
    where
      first : h.without_b ≡ greedy (without R b) order
      first = lowest-first-greedy up all (without-monotone mono b) (without-in-turn turn b) run-empty h.other_than_b

      second : h.on ≡ greedy_from R order R.size (done [] (greedy (without R b) order))
      second = lowest-first-greedy up all mono turn (largest-run b) (rw first at h.to_the_end)
