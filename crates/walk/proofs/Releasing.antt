-- The waiters while a worker goes on. In order: what holds whatever the arrays' lengths are; nobody is freed; an event
-- is posted, and who waited for it is freed; the worker comes to wait; it is itself among those freed; who has stopped
-- stays so, or is freed.
use mathlib.Core.Bool.{false}
use mathlib.Core.List.{List, [], ◌∷◌}
use mathlib.Core.Logic.{◌⊎◌, inl, inr, ◌≢◌}
use mathlib.Core.Path.{◌≡◌, refl, sym, ◌∙◌}
use native.Mathlib.Omega.{arith}
use Prim.Native.Nat.{ℕ, zero, suc, ◌<◌}
use lib.Bits.{bit_or}
use lib.ListN.{length, get_or, set, length-set}
use lib.Seq.{get_or-set_same, get_or-set_other}
use borrow.Author.Tests.{ne_eqb}
use Rattle.basics.proofs.Booleans.{equal?}
use Rattle.trace.specs.Trace.{Trace}
use Rattle.events.specs.Events.{is_posted, with_post}
use Rattle.events.proofs.EventBits.{posted-after, with_post-length}
use Rattle.masks.specs.Masks.{◌is_in◌, With}
use Rattle.masks.proofs.Sets.{in-none, in_either, in_left, in_right}
use Rattle.states.specs.States.{Blocked, no_more, left_out, waits}
use Rattle.walk.specs.Going.{Released, Entered, Stopped, at_end, at_left_out, at_event}

-- ---- whatever the lengths are

-- `Released` without the lengths
pub record Freed (q : ℕ) (events waiting events' waiting' : List ℕ) (freed : ℕ) : Type 0 where
  pub keeps : (e p : ℕ) → e < 256 → is_posted events e ≡ false → p is_in get_or waiting e 0
      → ((is_posted events' e ≡ false) × (p is_in get_or waiting' e 0)) ⊎ (p is_in freed)
  pub freed_waited : (p : ℕ) → p is_in freed → (p ≡ q) ⊎ ((e : ℕ) × (p is_in get_or waiting e 0))
  pub waits_waited : (e p : ℕ) → p is_in get_or waiting' e 0 → (p ≡ q) ⊎ (p is_in get_or waiting e 0)

-- nobody is at a place of a list that is cleared
pub cleared : (l : List ℕ) (i : ℕ) → get_or (set l i 0) i 0 ≡ 0
cleared [] zero = refl
cleared [] (suc i) = refl
cleared (x ∷ l) zero = refl
cleared (x ∷ l) (suc i) = cleared l i

pub freed-none : {q : ℕ} {events waiting : List ℕ} → Freed q events waiting events waiting 0
freed-none =
    record {
      keeps = λ e p l n i. inl (n, i);
      freed_waited = λ p i. absurd (in-none i);
      waits_waited = λ e p i. inr i;
    }

module _ {q : ℕ} {events waiting events' waiting' : List ℕ} {freed : ℕ}
    (x : Freed q events waiting events' waiting' freed) where
  pub freed-step : {e : ℕ} → e < 256 → length events' ≡ 4
      → Freed q events waiting (with_post events' e) (set waiting' e 0) (bit_or freed (get_or waiting' e 0))
  freed-step {e} l words =
      record {
        keeps = λ d p h n i. on d p (x.keeps d p h n i) (equal? d e);
        freed_waited = λ p i. back p (in_either freed (get_or waiting' e 0) i);
        waits_waited = λ d p i. who d p i (equal? d e);
      }
    where
      on : (d p : ℕ) → ((is_posted events' d ≡ false) × (p is_in get_or waiting' d 0)) ⊎ (p is_in freed)
          → (d ≡ e) ⊎ (d ≢ e)
          → ((is_posted (with_post events' e) d ≡ false) × (p is_in get_or (set waiting' e 0) d 0))
          ⊎ (p is_in bit_or freed (get_or waiting' e 0))
      on d p (inr i) z = inr (in_left freed (get_or waiting' e 0) i)
      on d p (inl (n, i)) (inl z) = inr (in_right freed (get_or waiting' e 0) (rw z at i))
      on d p (inl (n, i)) (inr z) =
          inl (
            posted-after events' e d words l ∙ rw (ne_eqb e d (λ y. z (sym y))) n,
            rw (get_or-set_other waiting' e d 0 0 z) i,
          )

      back : (p : ℕ) → (p is_in freed) ⊎ (p is_in get_or waiting' e 0)
          → (p ≡ q) ⊎ ((d : ℕ) × (p is_in get_or waiting d 0))
      back p (inl i) = x.freed_waited p i
      back p (inr i) = elim (x.waits_waited e p i) [ inl z ↦ inl z | inr j ↦ inr (e, j) ]

      who : (d p : ℕ) → p is_in get_or (set waiting' e 0) d 0 → (d ≡ e) ⊎ (d ≢ e)
          → (p ≡ q) ⊎ (p is_in get_or waiting d 0)
      who d p i (inl z) = absurd (in-none (rw (z, cleared waiting' e) at i))
      who d p i (inr z) = x.waits_waited d p (rw (get_or-set_other waiting' e d 0 0 z) at i)

  -- who has stopped
  pub freed-still : {t : Trace} {a p k : ℕ} → Stopped t a events waiting p k
      → (p is_in freed) ⊎ Stopped t a events' waiting' p k
  freed-still (at_end e) = inr (at_end e)
  freed-still (at_left_out e) = inr (at_left_out e)
  freed-still {p = p} (at_event e l need none i) = elim (x.keeps e p l none i) [
    | inl j ↦ inr (at_event e l need j.0 j.1)
    | inr j ↦ inl j
  ]

  with-lengths : length waiting' ≡ 256 → length events' ≡ 4 → Released q events waiting events' waiting' freed
  with-lengths h k =
      record {
        room = h;
        words = k;
        keeps = x.keeps;
        freed_waited = x.freed_waited;
        waits_waited = x.waits_waited;
      }

-- ---- nobody is freed

pub released-none : {q : ℕ} {events waiting : List ℕ} → length events ≡ 4 → length waiting ≡ 256
    → Released q events waiting events waiting 0
released-none h k = with-lengths freed-none k h

module _ {q : ℕ} {events waiting events' waiting' : List ℕ} {freed : ℕ}
    (x : Released q events waiting events' waiting' freed) where
  any-lengths : Freed q events waiting events' waiting' freed
  any-lengths = record { keeps = x.keeps; freed_waited = x.freed_waited; waits_waited = x.waits_waited }

  -- ---- e is posted, and who waited for it is free

  pub released-step : {e : ℕ} → e < 256
      → Released q events waiting (with_post events' e) (set waiting' e 0) (bit_or freed (get_or waiting' e 0))
  released-step {e} l =
      with-lengths (freed-step any-lengths l x.words) (length-set waiting' e 0 ∙ x.room)
      (with_post-length events' e ∙ x.words)

  -- ---- q waits for e

  module _ {e : ℕ} (l : e < 256) {waiting'' : List ℕ} (y : Entered q e waiting' waiting'') where
    at-e : get_or waiting'' e 0 ≡ y.mask
    at-e = rw y.is (get_or-set_same waiting' e y.mask 0 (omega (arith, l, x.room)))

    elsewhere : (d : ℕ) → d ≢ e → get_or waiting'' d 0 ≡ get_or waiting' d 0
    elsewhere d z = rw y.is (get_or-set_other waiting' e d y.mask 0 z)

    pub released-enter : Released q events waiting events' waiting'' freed
    released-enter =
        record {
          room = rw y.is (length-set waiting' e y.mask ∙ x.room);
          words = x.words;
          keeps = λ d p h n i. on d p (x.keeps d p h n i) (equal? d e);
          freed_waited = x.freed_waited;
          waits_waited = λ d p i. who d p i (equal? d e);
        }
      where
        on : (d p : ℕ) → ((is_posted events' d ≡ false) × (p is_in get_or waiting' d 0)) ⊎ (p is_in freed)
            → (d ≡ e) ⊎ (d ≢ e)
            → ((is_posted events' d ≡ false) × (p is_in get_or waiting'' d 0)) ⊎ (p is_in freed)
        on d p (inr i) z = inr i
        on d p (inl (n, i)) (inl z) = inl (n, rw (z, at-e) ((y.one_more.each p).1 (inl (rw z at i))))
        on d p (inl (n, i)) (inr z) = inl (n, rw (elsewhere d z) i)

        who : (d p : ℕ) → p is_in get_or waiting'' d 0 → (d ≡ e) ⊎ (d ≢ e) → (p ≡ q) ⊎ (p is_in get_or waiting d 0)
        who d p i (inl z) = elim ((y.one_more.each p).0 (rw (z, at-e) at i)) [
          | inl j ↦ rw z (x.waits_waited e p j)
          | inr j ↦ inl j
        ]
        who d p i (inr z) = x.waits_waited d p (rw (elsewhere d z) at i)

    pub entered : q is_in get_or waiting'' e 0
    entered = rw at-e ((y.one_more.each q).1 (inr refl))

  -- ---- q is among those freed

  pub released-own : {freed' : ℕ} → With freed q freed' → Released q events waiting events' waiting' freed'
  released-own w =
      record {
        room = x.room;
        words = x.words;
        keeps = λ d p h n i. elim (x.keeps d p h n i) [ inl j ↦ inl j | inr j ↦ inr ((w.each p).1 (inl j)) ];
        freed_waited = λ p i. elim ((w.each p).0 i) [ inl j ↦ x.freed_waited p j | inr z ↦ inl z ];
        waits_waited = x.waits_waited;
      }

  -- ---- who has stopped

  pub still : {t : Trace} {a p k : ℕ} → Stopped t a events waiting p k
      → (p is_in freed) ⊎ Stopped t a events' waiting' p k
  still = freed-still any-lengths

pub stopped-blocked : {t : Trace} {a : ℕ} {events waiting : List ℕ} {p k : ℕ} → Stopped t a events waiting p k
    → Blocked t a events k
stopped-blocked (at_end e) = no_more e
stopped-blocked (at_left_out e) = left_out e
stopped-blocked (at_event e l need none i) = waits e need none
