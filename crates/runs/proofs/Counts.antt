-- A run and its counts: where each worker's operations keep their order, how many of each worker a run holds tells
-- which. In order: one operation more; the operations before one; `Counted` along steps; a worker's next operation;
-- the same operations have the same counts; what a run holds. `worker` is explicit where no premise shows it.
use mathlib.Core.Path.{◌≡◌, refl, sym, subst, ◌∙◌}
use mathlib.Core.Bool.{Bool, true, false, cond}
use mathlib.Core.List.Memᴰ
use mathlib.Core.List.{List, [], ◌∷◌}
use mathlib.Core.Logic.{◌⊎◌, inl, inr, ◌↔◌, ◌≢◌}
use Prim.Native.Nat.{ℕ, zero, suc, ◌+◌, ◌≤◌, ◌<◌}
use native.Mathlib.Nat.{not-suc-le-zero}
use native.Mathlib.Omega.{arith}
use lib.Dec.{T, eqb, eqb→eq, eqb_refl}
use Rattle.basics.specs.Membership.{◌∈◌, ◌∉◌, ◌⊆◌, SameOperations, Different, up_to}
use Rattle.basics.proofs.Booleans.{equal?, less?}
use Rattle.basics.proofs.Members.{there}
use Rattle.runs.specs.Rule.{Rule, Monotone}
use Rattle.runs.specs.Run.{Run}
use Rattle.runs.specs.Steps.{Addable, Steps, stop, step, done}
use Rattle.runs.specs.Workers.{InTurn, turn, count, earlier, Counted}
use Rattle.runs.proofs.Done.{done-same}
use Rattle.runs.proofs.Lengths.{count_if-yes, count_if-no, different-count}
use Rattle.runs.proofs.ProgramOrder.{turn-test}
use Rattle.runs.proofs.RunSteps.{run-steps}

module _ (worker : ℕ → ℕ) where
  -- ---- one operation more

  pub count-own : (l : List ℕ) {x q : ℕ} → worker x ≡ q → count worker q (x ∷ l) ≡ suc (count worker q l)
  count-own l {x} {q} e = count_if-yes (λ y. eqb (worker y) q) x l (rw e (eqb_refl q))

  pub count-other : (l : List ℕ) {x q : ℕ} → worker x ≢ q → count worker q (x ∷ l) ≡ count worker q l
  count-other l {x} {q} n = count_if-no (λ y. eqb (worker y) q) x l (λ h. n (eqb→eq (worker x) q h))

  pub count-done : (q : ℕ) (d s : List ℕ) → count worker q (done d s) ≡ count worker q d + count worker q s
  count-done q d [] = omega arith
  count-done q d (x ∷ s) = rw (count-done q (x ∷ d) s) (go (eqb (worker x) q) (count worker q d) (count worker q s))
    where
      go : (b : Bool) (i j : ℕ) → cond b (suc i) i + j ≡ i + cond b (suc j) j
      go true i j = omega arith
      go false i j = refl

  -- ---- the operations before one

  -- each operation of worker q raises the count
  pub earlier-less : (q : ℕ) {y : ℕ} (x : ℕ) → worker y ≡ q → y < x → count worker q (up_to y) < count worker q (up_to x)
  earlier-less q zero e l = absurd (not-suc-le-zero l)
  earlier-less q {y} (suc x) e l = go (equal? y x) (equal? (worker x) q) (earlier-less q x e)
    where
      go : (y ≡ x) ⊎ (y ≢ x) → (worker x ≡ q) ⊎ (worker x ≢ q)
          → (y < x → count worker q (up_to y) < count worker q (up_to x))
          → count worker q (up_to y) < count worker q (x ∷ up_to x)
      go (inl i) j f = rw (← i, count-own (up_to y) e) (omega arith)
      go (inr i) (inl j) f = rw (count-own (up_to x) j) (omega (arith, f (omega (arith, i))))
      go (inr i) (inr j) f = rw (count-other (up_to x) j) (f (omega (arith, i)))

  -- worker q's operation with k earlier ones
  pub record Nth (q k x : ℕ) : Type 0 where
    pub which : ℕ
    pub before : which < x
    pub own : worker which ≡ q
    pub ahead : count worker q (up_to which) ≡ k

  pub nth : (q k x : ℕ) → k < count worker q (up_to x) → Nth q k x
  nth q k zero l = absurd (not-suc-le-zero l)
  nth q k (suc x) l = go (equal? (worker x) q) (less? k (count worker q (up_to x))) (nth q k x)
    where
      later : Nth q k x → Nth q k (suc x)
      later t = record { which = t.which; before = omega (arith, t.before); own = t.own; ahead = t.ahead }

      go : (worker x ≡ q) ⊎ (worker x ≢ q) → (k < count worker q (up_to x)) ⊎ (count worker q (up_to x) ≤ k)
          → (k < count worker q (up_to x) → Nth q k x) → Nth q k (suc x)
      go i (inl h) f = later (f h)
      go (inl i) (inr h) f = record { which = x; before = omega arith; own = i; ahead = omega (arith, last) }
        where
          last : k < suc (count worker q (up_to x))
          last = rw (count-own (up_to x) i) at l
      go (inr i) (inr h) f = later (f (rw (count-other (up_to x) i) at l))

  -- no two operations of one worker have as many earlier ones
  pub earlier-injective : (x y : ℕ) → worker x ≡ worker y → earlier worker x ≡ earlier worker y → x ≡ y
  earlier-injective x y e r = go (less? x y) (less? y x)
    where
      same : count worker (worker y) (up_to x) ≡ count worker (worker y) (up_to y)
      same = rw e at r

      go : (x < y) ⊎ (y ≤ x) → (y < x) ⊎ (x ≤ y) → x ≡ y
      go (inl h) k = omega (arith, same, earlier-less (worker y) y e h)
      go (inr h) (inl k) = omega (arith, same, earlier-less (worker y) x refl k)
      go (inr h) (inr k) = omega arith

  -- ---- `Counted` along steps

  pub counted-nothing : Counted worker []
  counted-nothing = record { from_in = λ m. elim m [ ]; to_in = λ l. absurd (not-suc-le-zero l) }

  module _ {R : Rule} (turn : InTurn R worker) where
    -- what can be added is its worker's next operation
    pub addable-next : {d : List ℕ} {x : ℕ} → Counted worker d → Addable R d x
        → earlier worker x ≡ count worker (worker x) d
    addable-next {d} {x} c a = omega (arith, high, low)
      where
        high : earlier worker x < count worker (worker x) d → ⊥
        high l = a.new (c.to_in l)

        low : count worker (worker x) d < earlier worker x → ⊥
        low l = again (nth (worker x) (count worker (worker x) d) x l)
          where
            again : Nth (worker x) (count worker (worker x) d) x → ⊥
            again t = omega (arith, t.ahead, counted)
              where
                counted : count worker (worker x) (up_to t.which) < count worker (worker x) d
                counted = rw t.own at (c.from_in (turn.earlier_done a.below a.allowed t.own t.before))

    pub counted-add : {d : List ℕ} {x : ℕ} → Counted worker d → Addable R d x → Counted worker (x ∷ d)
    counted-add {d} {x} c a =
        record { from_in = λ {x = y} m. from y m; to_in = λ {x = y} l. to y (equal? (worker x) (worker y)) l }
      where
        next : earlier worker x ≡ count worker (worker x) d
        next = addable-next c a

        grows : (y : ℕ) → count worker (worker y) d ≤ count worker (worker y) (x ∷ d)
        grows y =
            elim (equal? (worker x) (worker y)) [
              | inl e ↦ rw (count-own d e) (omega arith)
              | inr n ↦ rw (count-other d n) (omega arith)
            ]

        from : (y : ℕ) → y ∈ x ∷ d → earlier worker y < count worker (worker y) (x ∷ d)
        from y (Memᴰ.head e) =
            subst (λ (z : ℕ). earlier worker z < count worker (worker z) (x ∷ d)) (sym e)
            (rw (count-own d {x = x} refl, next) (omega arith))
        from y (Memᴰ.tail m) = omega (arith, c.from_in m, grows y)

        to : (y : ℕ) → (worker x ≡ worker y) ⊎ (worker x ≢ worker y)
            → earlier worker y < count worker (worker y) (x ∷ d) → y ∈ x ∷ d
        to y (inr n) l = there (c.to_in (rw (count-other d n) at l))
        to y (inl e) l = go (less? (earlier worker y) (count worker (worker y) d)) (rw (count-own d e) at l)
          where
            go : (earlier worker y < count worker (worker y) d) ⊎ (count worker (worker y) d ≤ earlier worker y)
                → earlier worker y < suc (count worker (worker y) d) → y ∈ x ∷ d
            go (inl h) k = there (c.to_in h)
            go (inr h) k = Memᴰ.head (earlier-injective y x (sym e) (same ∙ sym next))
              where
                same : earlier worker y ≡ count worker (worker x) d
                same = rw e (omega arith)

    pub counted-steps : {d s : List ℕ} → Counted worker d → Steps R d s → Counted worker (done d s)
    counted-steps c stop = c
    counted-steps c (step a p) = counted-steps (counted-add c a) p

  -- ---- a worker's next operation

  -- the operation at its worker's count: the worker's earlier ones are done, and it is not
  pub next-turn : {d : List ℕ} (x : ℕ) → Counted worker d → earlier worker x ≡ count worker (worker x) d
      → T (turn worker d x)
  next-turn {d} x c r = (turn-test worker d x).1 (λ y e l. before y e l)
    where
      before : (y : ℕ) → worker y ≡ worker x → y < x → y ∈ d
      before y e l = c.to_in (rw e (omega (arith, earlier-less (worker x) x e l)))

  pub next-new : {d : List ℕ} {x : ℕ} → Counted worker d → earlier worker x ≡ count worker (worker x) d → x ∉ d
  next-new {d} {x} c r m = omega (arith, c.from_in m)

  -- ---- the same operations, each once, have the same counts

  pub count_same : {d e : List ℕ} → Different d → Different e → SameOperations d e
      → (q : ℕ) → count worker q d ≡ count worker q e
  count_same i j s q = omega (arith, fewer i s.forth, fewer j s.back)
    where
      fewer : {d e : List ℕ} → Different d → d ⊆ e → count worker q d ≤ count worker q e
      fewer i s = different-count (λ x. eqb (worker x) q) i s

-- ---- what a run holds

-- after every run, what is done is the first operations of each worker
pub run-counted : {R : Rule} {worker : ℕ → ℕ} → Monotone R → InTurn R worker → {r : List ℕ} → Run R r
    → Counted worker (done [] r)
run-counted {worker = worker} mono turn p = counted-steps worker turn (counted-nothing worker) (run-steps mono p)

-- Where what is done is the first operations of each worker, an operation is in the list exactly when the list holds
-- more of its worker's operations than come before it.
pub counted-in : {worker : ℕ → ℕ} (r : List ℕ) → Counted worker (done [] r)
    → (x : ℕ) → (x ∈ r) ↔ (earlier worker x < count worker (worker x) r)
counted-in {worker} r c x = (forth, back)
  where
    total : count worker (worker x) (done [] r) ≡ count worker (worker x) r
    total = omega (arith, count-done worker (worker x) [] r)

    forth : x ∈ r → earlier worker x < count worker (worker x) r
    forth m = omega (arith, c.from_in ((done-same r).back.all m), total)

    back : earlier worker x < count worker (worker x) r → x ∈ r
    back l = (done-same r).forth.all (c.to_in (omega (arith, total)))

-- So it is of every run that keeps program order: an operation is in it exactly when its rank (document 01, from 1) is
-- at most its worker's count.
pub in-run : {R : Rule} {worker : ℕ → ℕ} → Monotone R → InTurn R worker → {r : List ℕ} → Run R r
    → (x : ℕ) → (x ∈ r) ↔ (earlier worker x < count worker (worker x) r)
in-run mono turn {r} p = counted-in r (run-counted mono turn p)
