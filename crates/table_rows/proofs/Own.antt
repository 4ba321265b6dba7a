-- A walk kept along worker q, which is neither ready nor waits: from the end of the walk without one of its operations
-- to the walk without the next one. In order: its operations by rank; the one that is left out is let in, whoever it
-- frees; a plain one; a step; a stretch of plain ones.
use mathlib.Core.Bool.{Bool, true, false, not, ◌&&◌}
use mathlib.Core.List.{List, [], ◌∷◌, ◌++◌}
use mathlib.Core.Logic.{◌⊎◌, inl, inr, ◌≢◌}
use mathlib.Core.Path.{◌≡◌, refl, sym, ap, ◌∙◌}
use native.Mathlib.Omega.{arith}
use Prim.Native.Nat.{ℕ, zero, suc, ◌+◌, ◌-◌, ◌<◌, ◌≤◌}
use lib.Bits.{or_zero_l}
use lib.ListN.{length, get_or, set}
use lib.Seq.{get_or-set_same, get_or-set_other, set-get_or, set-set}
use borrow.Author.Tests.{eq-eqb}
use Rattle.basics.specs.Membership.{up_to}
use Rattle.basics.proofs.Booleans.{equal?, less?, zero_one}
use Rattle.runs.specs.Workers.{count}
use Rattle.runs.proofs.Counts.{earlier-less}
use Rattle.trace.specs.Premises.{Fits}
use Rattle.trace.specs.Trace.{Trace, size, worker_of}
use Rattle.events.specs.Events.{is_posted, with_post}
use Rattle.masks.specs.Masks.{◌is_in◌}
use Rattle.masks.proofs.Sets.{in-none}
use Rattle.model.specs.Rule.{needs}
use Rattle.model.specs.Runs.{CompleteRunOf}
use Rattle.index.specs.Indexed.{Rth}
use Rattle.index.specs.Steps.{operation_at, holds, event, Tells, Plain, Between, Follows}
use Rattle.index.proofs.Operations.{rth-at, at-rth, at-inside}
use Rattle.states.specs.States.{EndsRun, Exhausted, next_of, Posted}
use Rattle.states.proofs.Along.{own-count, own-free, own-ends}
use Rattle.walk.specs.Going.{Stopped, at_end, at_left_out, at_event, Awake, Going}
use Rattle.walk.proofs.Releasing.{Freed, cleared, freed-none, freed-step, freed-still}
use Rattle.walk.proofs.Stretches.{step-posted, plain-posted}
use Rattle.walk.proofs.Turns.{going-exhausted}
use Rattle.courses.proofs.Cutting.{follows-other, apart_other, ends-other}

-- ---- by rank

-- a worker's operations come in the order of their ranks
later : {t : Trace} {q i j a b : ℕ} → Rth t q i a → Rth t q j b → i < j → a < b
later {t} {q} {i} {j} {a} {b} x y l = go (less? a b) (equal? a b)
  where
    first : count (worker_of t) q (up_to a) ≡ i
    first = rw x.own at x.ahead

    second : count (worker_of t) q (up_to b) ≡ j
    second = rw y.own at y.ahead

    go : (a < b) ⊎ (b ≤ a) → (a ≡ b) ⊎ (a ≢ b) → a < b
    go (inl h) z = h
    go (inr h) (inl z) = absurd (omega (arith, first, rw (← z) at second, l))
    go (inr h) (inr z) =
        absurd (omega (arith, first, second, l, earlier-less (worker_of t) q a y.own (omega (arith, h, z))))

-- ---- the operation that is left out is let in

module _ {t : Trace} (f : Fits t) {q i a : ℕ} {r list ends lasts nexts counts events waiting : List ℕ}
    (x : Going t a q r list ends lasts nexts counts events waiting 0) (o : Rth t q i a) {c : List ℕ}
    (complete : CompleteRunOf t c) where
  ended : Exhausted t a r counts events
  ended = going-exhausted f x

  low : q < 16
  low = rw (← o.own) (omega (arith, (f.each a o.below).worker, f.most))

  room : q < length counts
  room = omega (arith, low, x.run.shows.counters)

  pub own-done : get_or counts q 0 ≡ i
  own-done = rw o.own at (own-count f ended complete o.below ∙ o.ahead)

  module _ {b : ℕ} (o' : Rth t q (i + 1) b) where
    going-freed : {events' waiting' : List ℕ} {freed : ℕ} → Posted t a events events'
        → Freed q events waiting events' waiting' freed
        → ((p : ℕ) → Awake waiting' freed p → Awake waiting 0 p)
        → Going t b q (r ++ a ∷ []) list ends lasts nexts (set counts q (i + 1)) events' waiting' freed
    going-freed {events'} {waiting'} {freed} posted released was =
        record {
          run = run;
          follows = follows;
          awake = λ p h. x.awake p (was p h);
          stands = λ p l. stands p l (equal? p q);
        }
      where
        run : EndsRun t b (r ++ a ∷ []) (set counts q (i + 1)) events'
        run =
            rw (o.own, own-done)
            at (own-ends f ended complete o.below (o.own ∙ sym o'.own) (later o o' (omega arith)) posted)

        follows : (p : ℕ) → p < 16 → p ≢ q
            → Follows t b list p (get_or nexts p 0) (get_or ends p 0) (get_or lasts p 0) (get_or (set counts q (i + 1)) p 0)
        follows p l n =
            rw (get_or-set_other counts q p (i + 1) 0 n)
            (follows-other t a b p (apart_other t p b (λ e. n (sym e ∙ o'.own)))
            (ends-other t p a (λ e. n (sym e ∙ o.own)) (get_or lasts p 0)) (x.follows p l n))

        stands : (p : ℕ) → p < t.workers → (p ≡ q) ⊎ (p ≢ q)
            → (p is_in freed) ⊎ Stopped t b events' waiting' p (next_of t (set counts q (i + 1)) p)
        stands p l (inl e) = inr (at_left_out (rw (e, get_or-set_same counts q (i + 1) 0 room) (rth-at t o')))
        stands p l (inr n) = rw (get_or-set_other counts q p (i + 1) 0 n) (go (x.stands p l))
          where
            go : (p is_in 0) ⊎ Stopped t a events waiting p (next_of t counts p)
                → (p is_in freed) ⊎ Stopped t b events' waiting' p (next_of t counts p)
            go (inl h) = absurd (in-none h)
            go (inr h) = elim (freed-still released h) [ inl j ↦ inl j | inr j ↦ inr (other j) ]
              where
                other : Stopped t a events' waiting' p (next_of t counts p)
                    → Stopped t b events' waiting' p (next_of t counts p)
                other (at_end e) = at_end e
                other (at_left_out e) = at_end (ends-other t p a (λ z. n (sym z ∙ o.own)) (get_or counts p 0) e)
                other (at_event e h need none j) = at_event e h need none j

    none : Freed q events waiting events waiting 0
    none = freed-none

    -- ---- a plain one

    pub own-plain : {d : ℕ} → Plain t d a
        → Going t b q (r ++ a ∷ []) list ends lasts nexts (set counts q (i + 1)) events waiting 0
    own-plain p = going-freed (plain-posted p x.run.shows.words) none (λ p h. h)

    -- ---- a step: it posts its event, or needed it, and then it is posted

    pub own-step : {v : ℕ} → Tells t v a
        → Going t b q (r ++ a ∷ []) list ends lasts nexts (set counts q (i + 1)) (with_post events (event v))
        (set waiting (event v) 0) (get_or waiting (event v) 0)
    own-step {v} s = going-freed (step-posted s events x.run.shows.words free) released was
      where
        free : (holds v && not (is_posted events (event v))) ≡ false
        free = go (holds v) (is_posted events (event v)) refl ((own-free f ended complete o.below).each (event v))
          where
            go : (h p : Bool) → holds v ≡ h → (needs t (event v) a ≡ true → p ≡ true) → (h && not p) ≡ false
            go false p e g = refl
            go true true e g = refl
            go true false e g =
                let z = g (s.needed (event v) ∙ rw (e, eq-eqb (event v) (event v) refl)) in
                absurd (zero_one cc)

        released : Freed q events waiting (with_post events (event v)) (set waiting (event v) 0)
            (get_or waiting (event v) 0)
        released =
            rw (or_zero_l (get_or waiting (event v) 0))
            at (freed-step none {e = event v} (omega arith) x.run.shows.words)

        -- who is ready or waits then waited before
        was : (p : ℕ) → Awake (set waiting (event v) 0) (get_or waiting (event v) 0) p → Awake waiting 0 p
        was p (inl h) = inr (event v, h)
        was p (inr (e, h)) = go (equal? e (event v))
          where
            go : (e ≡ event v) ⊎ (e ≢ event v) → Awake waiting 0 p
            go (inl z) =
                absurd (in-none (rw (z, cleared waiting (event v)) at h))
            go (inr z) = inr (e, rw (get_or-set_other waiting (event v) e 0 0 z) at h)

-- ---- a stretch of plain ones

module _ {t : Trace} (f : Fits t) {q i : ℕ} {r list ends lasts nexts counts events waiting : List ℕ}
    (x : Going t (operation_at t q i) q r list ends lasts nexts counts events waiting 0) {c : List ℕ}
    (complete : CompleteRunOf t c) {d j : ℕ} (b : Between t d q i j) where
  -- with m operations of the worker done
  abbrev Kept : ℕ → Type 0
  Kept m =
      (s : List ℕ) × Going t (operation_at t q m) q s list ends lasts nexts (set counts q m) events waiting 0

  next : (m : ℕ) → i ≤ m → m < j → operation_at t q (m + 1) < size t → Kept m → Kept (m + 1)
  next m h k l (s, g) =
      let o = at-rth t q m (at-inside t q (m + 1) m l (omega arith)) in
      let on = own-plain f g o complete (at-rth t q (m + 1) l) (b.each m h k) in
      (s ++ operation_at t q m ∷ [], rw (set-set counts q m (m + 1)) at on)

  many : (k m : ℕ) → i ≤ m → m + k ≤ j → operation_at t q (m + k) < size t → Kept m → Kept (m + k)
  many zero m h z l y = let e : m + 0 ≡ m = omega arith in rw e y
  many (suc k) m h z l y =
      let e : (m + 1) + k ≡ m + suc k = omega arith in
      let on = next m h (omega (arith, z)) (at-inside t q (m + suc k) (m + 1) l (omega arith)) y in
      rw e at (many k (m + 1) (omega (arith, h)) (omega (arith, z)) (rw e l) on)

  pub own-stretch : (m : ℕ) → i ≤ m → m ≤ j → operation_at t q m < size t
      → (s : List ℕ) × Going t (operation_at t q m) q s list ends lasts nexts (set counts q m) events waiting 0
  own-stretch m h k l =
      let e : i + (m - i) ≡ m = omega (arith, h) in
      let same = own-done f x (at-rth t q i (at-inside t q m i l h)) complete in
      let still : set counts q i ≡ counts = ap (set counts q) (sym same) ∙ set-get_or counts q 0 in
      rw e at (many (m - i) i (omega arith) (omega (arith, h, k)) (rw e l) (r, rw still x))
