-- A run carried on by one worker's operations, one behind the other. In order: the stretch; one operation more; the
-- same, as the lowest-numbered worker's; plain ones; a step.
use mathlib.Core.Bool.{Bool, true, false, not, ◌&&◌, ◌||◌}
use mathlib.Core.List.{List, [], ◌∷◌, ◌++◌, append-nil, append_assoc}
use mathlib.Core.Logic.{◌≢◌}
use mathlib.Core.Path.{◌≡◌, refl, sym, ◌∙◌}
use native.Mathlib.Omega.{arith}
use Prim.Native.Nat.{ℕ, zero, suc, ◌+◌, ◌-◌, ◌<◌, ◌≤◌}
use lib.Dec.{eqb}
use lib.ListN.{length, get_or, set, drop, length-set, length-drop}
use lib.Seq.{take-suc, get_or-drop, get_or-set_same, get_or-set_other, set-get_or, set-set}
use borrow.Author.Tests.{eqb-true}
use Rattle.basics.proofs.Booleans.{both_true, zero_one}
use Rattle.runs.specs.Rule.{without}
use Rattle.runs.specs.Steps.{done}
use Rattle.runs.specs.Workers.{operations_of, LowestSteps, no_step, one_step}
use Rattle.runs.proofs.Done.{done-append}
use Rattle.runs.proofs.LowestWorker.{lowest-append}
use Rattle.runs.proofs.Places.{operations_of-length}
use Rattle.trace.specs.Trace.{Trace, size, worker_of}
use Rattle.events.specs.Events.{is_posted, with_post}
use Rattle.events.proofs.EventBits.{posted-after, with_post-length}
use Rattle.model.specs.Rule.{posts, needs, rule}
use Rattle.index.specs.Steps.{operation_at, holds, event, Tells, Plain, Between}
use Rattle.index.proofs.Operations.{at_count}
use Rattle.states.specs.States.{EndsRun, next_of, Free, Blocked, Posted}
use Rattle.states.proofs.Moves.{next-lowest}
use Rattle.states.proofs.Runs.{ends-counted, ends-addable, ends_more}
use Rattle.walk.specs.Going.{stretch, LowestStretch}

-- ---- the stretch

module _ (t : Trace) (q : ℕ) where
  pub stretch-none : (i : ℕ) → stretch t q i i ≡ []
  stretch-none i = let e : i - i ≡ 0 = omega arith in rw e

  pub stretch-more : {i m : ℕ} → i ≤ m → operation_at t q m < size t
      → stretch t q i (m + 1) ≡ stretch t q i m ++ operation_at t q m ∷ []
  stretch-more {i} {m} h l =
      let all = operations_of (worker_of t) q (size t) in
      let few = at_count t q m l in
      let room : m - i < length (drop i all)
      = omega (arith, h, few, length-drop i all, operations_of-length (worker_of t) q (size t)) in
      let e : m + 1 - i ≡ suc (m - i) = omega (arith, h) in
      let at : i + (m - i) ≡ m = omega (arith, h) in
      let one = take-suc (drop i all) (m - i) (size t) room in
      let last = get_or-drop i all (m - i) (size t) in
      rw e (one ∙ rw (last, at))

-- ---- what is posted by a step

-- where its entry does not hold it, what it needs is posted
pub step-free : {t : Trace} {x k : ℕ} → Tells t x k → (events : List ℕ)
    → (holds x && not (is_posted events (event x))) ≡ false → Free t events k
step-free {t} {x} {k} s events free = record { each = each }
  where
    go : (b p : Bool) → b ≡ true → (b && not p) ≡ false → p ≡ true
    go true true h f = refl
    go true false h f = absurd (zero_one cc)
    go false p h f = absurd (zero_one cc)

    each : (e : ℕ) → needs t e k ≡ true → is_posted events e ≡ true
    each e n =
        let (h, same) = both_true (holds x) (eqb (event x) e) (sym (s.needed e) ∙ n) in
        rw (eqb-true (event x) e same) at (go (holds x) (is_posted events (event x)) h free)

-- the entry's event is posted then: if it needs it, it was before
pub step-posted : {t : Trace} {x k : ℕ} → Tells t x k → (events : List ℕ) → length events ≡ 4
    → (holds x && not (is_posted events (event x))) ≡ false → Posted t k events (with_post events (event x))
step-posted {t} {x} {k} s events long free = record { words = with_post-length events (event x) ∙ long; each = each }
  where
    each : (e : ℕ) → is_posted (with_post events (event x)) e ≡ (posts t e k || is_posted events e)
    each e =
        posted-after events (event x) e long (omega arith)
        ∙ rw (← s.gives e) (go (posts t e k) (needs t e k) refl)
      where
        go : (p n : Bool) → needs t e k ≡ n → ((p || n) || is_posted events e) ≡ (p || is_posted events e)
        go true n i = refl
        go false true i = sym ((step-free s events free).each e i)
        go false false i = refl

plain-free : {t : Trace} {a k : ℕ} → Plain t a k → (events : List ℕ) → Free t events k
plain-free p events = record { each = λ e n. let none = p.needed e in absurd (zero_one cc) }

pub plain-posted : {t : Trace} {a k : ℕ} → Plain t a k → {events : List ℕ} → length events ≡ 4
    → Posted t k events events
plain-posted p long = record { words = long; each = λ e. rw (p.posted e) }

module _ (t : Trace) (a q : ℕ) (low : q < 16) (r counts : List ℕ) where
  -- ---- nothing more

  pub gone-none : {events : List ℕ} → EndsRun t a r counts events
      → EndsRun t a (r ++ stretch t q (get_or counts q 0) (get_or counts q 0)) (set counts q (get_or counts q 0)) events
  gone-none x = rw (stretch-none t q (get_or counts q 0), append-nil, set-get_or counts q 0) x

  pub lowest-none : LowestStretch t a q r counts (get_or counts q 0)
  lowest-none = rw (stretch-none t q (get_or counts q 0)) no_step

  -- ---- one operation more

  module _ {m : ℕ} {events : List ℕ} (on : get_or counts q 0 ≤ m)
      (x : EndsRun t a (r ++ stretch t q (get_or counts q 0) m) (set counts q m) events)
      (below : operation_at t q m < size t) (other : operation_at t q m ≢ a)
      (free : Free t events (operation_at t q m)) where
    room : q < length counts
    room = omega (arith, low, sym (length-set counts q m) ∙ x.shows.counters)

    here : get_or (set counts q m) q 0 ≡ m
    here = get_or-set_same counts q m 0 room

    pub gone-more : {events' : List ℕ} → Posted t (operation_at t q m) events events'
        → EndsRun t a (r ++ stretch t q (get_or counts q 0) (m + 1)) (set counts q (m + 1)) events'
    gone-more {events'} p =
        let y = ends_more x low (rw here below) (rw here other) (rw here free) {events' = events'} (rw here p) in
        let both = rw (here, set-set counts q m (m + 1)) at y in
        rw (stretch-more t q on below, ← append_assoc r (stretch t q (get_or counts q 0) m) (operation_at t q m ∷ [])) both

    -- ---- as the lowest-numbered worker's

    pub lowest-more : ((p : ℕ) → p < q → Blocked t a events (next_of t counts p)) → LowestStretch t a q r counts m
        → LowestStretch t a q r counts (m + 1)
    lowest-more blocked steps =
        rw (stretch-more t q on below) (lowest-append steps
        (rw (done-append [] r (stretch t q (get_or counts q 0) m)) at one))
      where
        blocked' : (p : ℕ) → p < q → Blocked t a events (next_of t (set counts q m) p)
        blocked' p l = rw (get_or-set_other counts q p m 0 (λ z. omega (arith, z, l))) (blocked p l)

        one : LowestSteps (worker_of t) (without (rule t) a) (done [] (r ++ stretch t q (get_or counts q 0) m))
            (operation_at t q m ∷ [])
        one =
            let can = ends-addable x low (rw here below) (rw here other) (rw here free) in
            rw here at (one_step (next-lowest x.shows (ends-counted x) a q can blocked') no_step)

  -- ---- plain ones

  module _ {events : List ℕ} (long : length events ≡ 4) where
    pub gone-plain : {m j : ℕ} → get_or counts q 0 ≤ m → Between t a q m j
        → EndsRun t a (r ++ stretch t q (get_or counts q 0) m) (set counts q m) events
        → EndsRun t a (r ++ stretch t q (get_or counts q 0) j) (set counts q j) events
    gone-plain {m} {j} on b x =
        let e : m + (j - m) ≡ j = omega (arith, b.on) in
        rw e at (many (j - m) m on (λ n h l. b.each n h (omega arith)) x)
      where
        many : (k m : ℕ) → get_or counts q 0 ≤ m → ((n : ℕ) → m ≤ n → n < m + k → Plain t a (operation_at t q n))
            → EndsRun t a (r ++ stretch t q (get_or counts q 0) m) (set counts q m) events
            → EndsRun t a (r ++ stretch t q (get_or counts q 0) (m + k)) (set counts q (m + k)) events
        many zero m on p x = let e : m + 0 ≡ m = omega arith in rw e x
        many (suc k) m on p x =
            let o = p m (omega arith) (omega arith) in
            let y = gone-more on x o.below o.other (plain-free o events) (plain-posted o long) in
            let e : (m + 1) + k ≡ m + suc k = omega arith in
            rw e at (many k (m + 1) (omega arith) (λ n h l. p n (omega arith) (omega arith)) y)

    pub lowest-plain : {m j : ℕ} → get_or counts q 0 ≤ m → Between t a q m j
        → EndsRun t a (r ++ stretch t q (get_or counts q 0) m) (set counts q m) events
        → ((p : ℕ) → p < q → Blocked t a events (next_of t counts p)) → LowestStretch t a q r counts m
        → LowestStretch t a q r counts j
    lowest-plain {m} {j} on b x blocked s =
        let e : m + (j - m) ≡ j = omega (arith, b.on) in
        rw e at (many (j - m) m on (λ n h l. b.each n h (omega arith)) x s)
      where
        many : (k m : ℕ) → get_or counts q 0 ≤ m → ((n : ℕ) → m ≤ n → n < m + k → Plain t a (operation_at t q n))
            → EndsRun t a (r ++ stretch t q (get_or counts q 0) m) (set counts q m) events
            → LowestStretch t a q r counts m → LowestStretch t a q r counts (m + k)
        many zero m on p x s = let e : m + 0 ≡ m = omega arith in rw e s
        many (suc k) m on p x s =
            let o = p m (omega arith) (omega arith) in
            let y = gone-more on x o.below o.other (plain-free o events) (plain-posted o long) in
            let more = lowest-more on x o.below o.other (plain-free o events) blocked s in
            let e : (m + 1) + k ≡ m + suc k = omega arith in
            rw e at (many k (m + 1) (omega arith) (λ n h l. p n (omega arith) (omega arith)) y more)
