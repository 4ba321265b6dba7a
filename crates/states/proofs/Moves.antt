-- The state of a walk shows the operations that are done. In order: at the start; after one operation more; an
-- operation that can be added; one that cannot.
use mathlib.Core.Bool.{not}
use mathlib.Core.List.{List, [], ◌∷◌}
use mathlib.Core.Logic.{◌⊎◌, inl, inr, ◌≢◌}
use mathlib.Core.Path.{◌≡◌, refl, sym, ap, ◌∙◌, subst}
use native.Mathlib.Numerals.{add-one}
use native.Mathlib.Omega.{arith}
use Prim.Native.Nat.{ℕ, ◌+◌, ◌<◌, ◌≤◌}
use lib.Dec.{T, eqb, eqb_refl, not_T, T_not, eqb→eq}
use lib.ListN.{get_or, set, replicate, length-set}
use lib.Seq.{get_or-set_same, get_or-set_other}
use Rattle.basics.proofs.Bits.{zeros}
use Rattle.basics.proofs.Booleans.{equal?, less?, and_left, and_right, and_intro, test-true, zero_one}
use Rattle.runs.specs.Rule.{Rule, without}
use Rattle.runs.specs.Steps.{Addable, Closed}
use Rattle.runs.specs.Workers.{turn, count, earlier, Counted, LowestAddable}
use Rattle.runs.proofs.Counts.{count-own, count-other, addable-next, next-turn, next-new}
use Rattle.runs.proofs.ProgramOrder.{without-in-turn}
use Rattle.trace.specs.Premises.{Fits}
use Rattle.trace.specs.Trace.{Trace, size, worker_of}
use Rattle.events.proofs.EventBits.{posted-start}
use Rattle.model.specs.Rule.{unblocked, rule}
use Rattle.model.proofs.RuleLaws.{rule-in-turn, unblocked-needs}
use Rattle.index.specs.Indexed.{Rth}
use Rattle.index.proofs.Operations.{at-rth, own_at}
use Rattle.states.specs.States.{Shows, next_of, Free, Blocked, no_more, left_out, waits, Posted}

-- ---- nothing done

pub shows-start : (t : Trace) → Shows t [] (replicate 16 0) (replicate 4 0)
shows-start t = record { counters = refl; words = refl; counted = zeros 16; set = posted-start }

-- ---- one operation more

pub shows_more : {t : Trace} {d counts events events' : List ℕ} → Shows t d counts events → {x : ℕ}
    → worker_of t x < 16 → Posted t x events events'
    → Shows t (x ∷ d) (set counts (worker_of t x) (get_or counts (worker_of t x) 0 + 1)) events'
shows_more {t} {d} {counts} s {x} low p =
    record {
      counters = length-set counts _ _ ∙ s.counters;
      words = p.words;
      counted = λ q. counted q (equal? q own);
      set = λ e. p.each e ∙ rw (s.set e);
    }
  where
    own : ℕ
    own = worker_of t x

    more : ℕ
    more = get_or counts own 0 + 1

    counted : (q : ℕ) → (q ≡ own) ⊎ (q ≢ own) → get_or (set counts own more) q 0 ≡ count (worker_of t) q (x ∷ d)
    counted q (inl e) =
        let one = count-own (worker_of t) d {x = x} refl in
        subst
        (λ (j : ℕ). get_or (set counts own more) j 0 ≡ count (worker_of t) j (x ∷ d))
        (sym e)
        (rw (get_or-set_same counts own more 0 (omega (arith, s.counters, low)), one, s.counted own, add-one))
    counted q (inr n) =
        let none = count-other (worker_of t) d {x = x} (λ e. n (sym e)) in
        rw (get_or-set_other counts own q more 0 n, none) (s.counted q)

module _ {t : Trace} {d counts events : List ℕ} (s : Shows t d counts events) (c : Counted (worker_of t) d) (a : ℕ)
  where
    -- the rule of the model, without operation a
    abbrev R : Rule
    R = without (rule t) a

    -- ---- an operation that can be added

    -- worker q's next one, where it need not wait
    pub next-addable : (q : ℕ) → next_of t counts q < size t → next_of t counts q ≢ a → Free t events (next_of t counts q)
        → Addable (without (rule t) a) d (next_of t counts q)
    next-addable q below other free = record { below = below; new = next-new (worker_of t) c ahead; allowed = allowed }
      where
        x : ℕ
        x = next_of t counts q

        r : Rth t q (get_or counts q 0) (next_of t counts q)
        r = at-rth t q (get_or counts q 0) below

        ahead : earlier (worker_of t) x ≡ count (worker_of t) (worker_of t x) d
        ahead = r.ahead ∙ s.counted q ∙ ap (λ (z : ℕ). count (worker_of t) z d) (sym r.own)

        ready : T (unblocked t d x)
        ready =
            (unblocked-needs t d x).1
            (λ e n. (test-true _).0 (sym (s.set e) ∙ free.each e ((test-true _).1 n)))

        allowed : T (R.may d x)
        allowed =
            and_intro ((rule t).may d x) (not (eqb x a))
            (and_intro (turn (worker_of t) d x) (unblocked t d x) (next-turn (worker_of t) x c ahead) ready)
            (not_T (eqb x a) (λ e. other (eqb→eq x a e)))

    -- ---- what is known of each

    module _ {y : ℕ} (i : Addable R d y) where
      addable-at : next_of t counts (worker_of t y) ≡ y
      addable-at =
          let e = addable-next (worker_of t) (without-in-turn (rule-in-turn t) a) c i in
          rw (e ∙ sym (s.counted (worker_of t y))) at (own_at t y i.below)

      both : T ((rule t).may d y) × T (not (eqb y a))
      both = (
        and_left ((rule t).may d y) (not (eqb y a)) i.allowed,
        and_right ((rule t).may d y) (not (eqb y a)) i.allowed,
      )

      addable-free : Free t events y
      addable-free =
          record {
            each = λ e n. s.set e
                ∙ (test-true _).1 ((unblocked-needs t d y).0
                (and_right (turn (worker_of t) d y) (unblocked t d y) both.0) e ((test-true _).0 n));
          }

      -- ---- its worker's next operation is not blocked

      pub blocked-not : Blocked t a events (next_of t counts (worker_of t y)) → ⊥
      blocked-not b = go (rw addable-at at b)
        where
          go : Blocked t a events y → ⊥
          go (no_more e) = omega (arith, e, i.below)
          go (left_out e) = T_not (eqb y a) both.1 (rw e (eqb_refl a))
          go (waits e need none) = let set = addable-free.each e need in zero_one cc

    -- where the workers below q are blocked, q's next operation is the lowest that can be added
    pub next-lowest : (q : ℕ) → Addable (without (rule t) a) d (next_of t counts q)
        → ((r : ℕ) → r < q → Blocked t a events (next_of t counts r))
        → LowestAddable (worker_of t) (without (rule t) a) d (next_of t counts q)
    next-lowest q can blocked = record { can = can; lowest = λ {y} i. lowest y i }
      where
        own : worker_of t (next_of t counts q) ≡ q
        own = (at-rth t q (get_or counts q 0) can.below).own

        lowest : (y : ℕ) → Addable R d y → worker_of t (next_of t counts q) ≤ worker_of t y
        lowest y i = rw own (elim (less? (worker_of t y) q) [
          | inl l ↦ absurd (blocked-not i (blocked (worker_of t y) l))
          | inr l ↦ l
        ])

    -- where all are blocked, nothing but a can be added
    pub blocked-closed : Fits t → ((q : ℕ) → q < t.workers → Blocked t a events (next_of t counts q))
        → Closed (without (rule t) a) d
    blocked-closed f blocked =
        record { none = λ {x = y} i. blocked-not i (blocked (worker_of t y) (f.each y i.below).worker) }
