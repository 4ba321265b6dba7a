-- The outcome of any call, where r is how its questions come out and `answer` makes the call's answer of that.
use mathlib.Core.Logic.{◌↔◌}
use mathlib.Core.Path.{◌≡◌, refl, ap, subst}
use Prim.Native.Nat.{ℕ}
use Rattle.trace.specs.Reading.{Reading, refused, reads}
use Rattle.trace.specs.Trace.{Trace}
use Rattle.trace.proofs.Outcomes.{ComesOut}
use Rattle.demands.specs.Outcomes.{Outcome, gives, refuses}

-- the outcomes, where `answer` makes both the result and the refusal
abbrev OutcomeOf : {X : Type 0} → (Reading → X) → (Trace → Type 0) → (ℕ → ℕ → Type 0) → X → Type 0
OutcomeOf answer Passes RefusedBy = Outcome (λ t. answer (reads t)) (λ q k. answer (refused q k)) Passes RefusedBy

-- the answer is x exactly if x is an outcome
pub outcome-exactly : {X : Type 0} (answer : Reading → X) {r : Reading} {Passes : Trace → Type 0}
    {RefusedBy : ℕ → ℕ → Type 0} → ComesOut r Passes RefusedBy → (x : X)
    → (answer r ≡ x) ↔ OutcomeOf answer Passes RefusedBy x
outcome-exactly {X} answer {r} {Passes} {RefusedBy} c x = (
  λ e. subst (λ (y : X). OutcomeOf answer Passes RefusedBy y) e (forth r c),
  back,
)
  where
    forth : (s : Reading) → ComesOut s Passes RefusedBy → OutcomeOf answer Passes RefusedBy (answer s)
    forth (refused q k) o = refuses ((o.refuses q k).0 refl)
    forth (reads t) o = gives ((o.passes t).0 refl)

    back : {y : X} → OutcomeOf answer Passes RefusedBy y → answer r ≡ y
    back (gives {t} p) = ap answer ((c.passes t).1 p)
    back (refuses {q} {k} p) = ap answer ((c.refuses q k).1 p)
