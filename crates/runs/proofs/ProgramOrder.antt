-- Program order: `turn` asks exactly for the worker's earlier operations; a rule that asks for it keeps program
-- order, and so does the rule without an operation.
use mathlib.Core.Path.{◌≡◌}
use mathlib.Core.Bool.{not, ◌||◌}
use mathlib.Core.List.{List}
use mathlib.Core.Logic.{◌↔◌}
use Prim.Native.Nat.{ℕ, ◌<◌}
use lib.Dec.{T, eqb, eqb→eq, eqb_refl}
use Rattle.basics.specs.Membership.{◌∈◌, mem, up_to}
use Rattle.basics.proofs.Booleans.{and_left, if-test}
use Rattle.basics.proofs.Members.{mem-test, all-test}
use Rattle.runs.specs.Rule.{Rule, without}
use Rattle.runs.specs.Workers.{turn, InTurn}
use Rattle.runs.proofs.Lengths.{up_to-in, up_to-below}

module _ (worker : ℕ → ℕ) where
  pub turn-test : (d : List ℕ) (x : ℕ) → T (turn worker d x) ↔ ((y : ℕ) → worker y ≡ worker x → y < x → y ∈ d)
  turn-test d x = (forth, back)
    where
      own : (y : ℕ) → T (not (eqb (worker y) (worker x)) || mem y d) ↔ (T (eqb (worker y) (worker x)) → T (mem y d))
      own y = if-test (eqb (worker y) (worker x)) (mem y d)

      forth : T (turn worker d x) → (y : ℕ) → worker y ≡ worker x → y < x → y ∈ d
      forth h y e l = (mem-test y d).0 ((own y).0 ((all-test _ (up_to x)).0 h y (up_to-in x l)) (rw e (eqb_refl (worker x))))

      back : ((y : ℕ) → worker y ≡ worker x → y < x → y ∈ d) → T (turn worker d x)
      back f = (all-test _ (up_to x)).1 (λ y m. (own y).1 (λ e. (mem-test y d).1 (f y (eqb→eq _ _ e) (up_to-below x m))))

  pub turn-in-turn : {R : Rule} → ((d : List ℕ) (x : ℕ) → T (R.may d x) → T (turn worker d x)) → InTurn R worker
  turn-in-turn asks = record { earlier_done = λ {d} {x} {y} l h e k. (turn-test d x).0 (asks d x h) y e k }

pub without-in-turn : {R : Rule} {worker : ℕ → ℕ} → InTurn R worker → (a : ℕ) → InTurn (without R a) worker
without-in-turn {R} turn a =
    record { earlier_done = λ {d} {x} l h e k. turn.earlier_done l (and_left (R.may d x) (not (eqb x a)) h) e k }
