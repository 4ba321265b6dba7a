-- Reading the struct of an answer gives the answer back, where a refusal's number is not 0. Assumes nothing.
use mathlib.Core.Path.{◌≡◌, refl}
use Prim.Native.Nat.{ℕ, zero, suc}
use Rattle.std.specs.Prelude.{ℤ, Result, Ok, Err}
use Rattle.trace.specs.declared.Counts.{Counts}
use Rattle.trace.specs.declared.Refusal.{Refusal}
use Rattle.trace.specs.Answer.{Refused}
use Rattle.races.specs.declared.answer.Races.{Races}
use Rattle.beginning.specs.declared.Prefix.{Prefix}
use Rattle.beginning.specs.declared.Prefix.TheVariants.{OfFirst, OfSecond}
use Rattle.c_results.specs.Reading.{accept_read, table_read, order_read, runs_read, races_read, canonical_read}
use Rattle.c_results.specs.Reading.{beginning_read, if_zero}
use Rattle.c_results.specs.Results.{accept_result, table_result, order_result, runs_result, races_result}
use Rattle.c_results.specs.Results.{canonical_result, beginning_result}

-- a number that is not 0
not-zero : {A : Type 0} (q : ℕ) (x y : A) → (q ≡ 0 → ⊥) → if_zero q x y ≡ y
not-zero zero x y n = absurd (n refl)
not-zero (suc q) x y n = refl

-- an answer refuses with no number 0
abbrev pub NoZero : {A : Type 0} → Result A Refusal → Type 0
NoZero a = (k : ℕ) → a ≡ Refused 0 k → ⊥

-- reading a struct with a refusal's number
refused-back : {A : Type 0} (x : A) (r : Refusal) → NoZero {A = A} (Err r)
    → if_zero {A = Result A Refusal} r.number (Ok x) (Err r) ≡ Err r
refused-back x r h = not-zero r.number (Ok x) (Err r) (λ z. h r.place (rw (← z) refl))

pub accept-back : (a : Result Counts Refusal) → NoZero a → accept_read (accept_result a) ≡ a
accept-back (Ok c) h = refl
accept-back (Err r) h = refused-back _ r h

pub table-back : (a : Result Counts Refusal) → NoZero a → table_read (table_result a) ≡ a
table-back (Ok c) h = refl
table-back (Err r) h = refused-back _ r h

pub order-back : (a : Result ℤ Refusal) → NoZero a → order_read (order_result a) ≡ a
order-back (Ok z) h = refl
order-back (Err r) h = refused-back _ r h

pub runs-back : (a : Result ℕ Refusal) → NoZero a → runs_read (runs_result a) ≡ a
runs-back (Ok n) h = refl
runs-back (Err r) h = refused-back _ r h

pub races-back : (a : Result Races Refusal) → NoZero a → races_read (races_result a) ≡ a
races-back (Ok f) h = refl
races-back (Err r) h = refused-back _ r h

pub canonical-back : (a : Result ℕ Refusal) → NoZero a → canonical_read (canonical_result a) ≡ a
canonical-back (Ok size) h = refl
canonical-back (Err r) h = refused-back _ r h

pub beginning-back : (x : Prefix) → beginning_read (beginning_result x) ≡ x
beginning-back (OfFirst n) = refl
beginning-back (OfSecond n) = refl
