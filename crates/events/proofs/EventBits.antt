-- The set of posted events. In order: the code's shift and mask; an event is posted exactly if its bit is 1; after a
-- post; at the start.
use mathlib.Core.Bool.{true, false, not, ◌&&◌, ◌||◌}
use mathlib.Core.List.{List}
use mathlib.Core.Logic.{◌⊎◌, inl, inr, ◌≢◌}
use mathlib.Core.Path.{◌≡◌, refl, sym, ◌∙◌}
use native.Mathlib.Nat.{mod-eq_of_lt, one-mul, div-eq_of_lt, zero-mul, max-zero}
use native.Mathlib.Omega.{arith}
use Prim.Native.Nat.{ℕ, zero, suc, ◌*◌, ◌/◌, ◌%◌, ◌^◌, ◌<◌, max}
use lib.Bits.{bit_and, bit_or, or_add_and, and_zero_r}
use lib.Dec.{eqb}
use lib.ListN.{length, get_or, set, replicate, length-set}
use lib.Pow.{pow-lt, pow_pos}
use lib.Seq.{get_or-set_same, get_or-set_other, set-get_or}
use borrow.Author.Tests.{eq-eqb, ne_eqb}
use Rattle.basics.proofs.Bits.{mask-bit, or-bit, bit-same, bit-other, zeros}
use Rattle.basics.proofs.Booleans.{equal?, zero_one}
use Rattle.events.specs.Events.{is_posted, with_post}

-- ---- by shift and mask, as the code has it

-- 1 << k
one_bit : (k : ℕ) → k < 64 → (1 * 2 ^ k) % 18446744073709551616 ≡ 2 ^ k
one_bit k h = rw one-mul (mod-eq_of_lt (pow-lt h))

module _ (e : ℕ) where
  mask : (1 * 2 ^ (e % 64)) % 18446744073709551616 ≡ 2 ^ (e % 64)
  mask = one_bit (e % 64) (omega arith)

  pub shift-set : (events : List ℕ)
      → set events (e / 64) (bit_or (get_or events (e / 64) 0) ((1 * 2 ^ (e % 64)) % 18446744073709551616))
      ≡ with_post events e
  unfolding with_post
  shift-set events = rw mask

-- ---- an event's bit

abbrev event_bit : List ℕ → ℕ → ℕ
event_bit events e = get_or events (e / 64) 0 / 2 ^ (e % 64) % 2

posted-bit : (events : List ℕ) (e : ℕ) → is_posted events e ≡ eqb (event_bit events e) 1
unfolding is_posted
posted-bit events e = rw mask-bit (go (event_bit events e) (omega arith))
  where
    go : (t : ℕ) → t < 2 → not (eqb (t * 2 ^ (e % 64)) 0) ≡ eqb t 1
    go zero h = rw zero-mul
    go (suc zero) h = simp (ne_eqb (1 * 2 ^ (e % 64)) 0 (λ z. omega (arith, pow_pos (e % 64))))
    go (suc (suc t)) h = absurd (omega arith)

-- the test by a mask: e's bit, or 0 where e is not needed
pub shift-missing : (events : List ℕ) (e need : ℕ) → need < 2 → {m : ℕ}
    → m ≡ (need * 2 ^ (e % 64)) % 18446744073709551616
    → not (eqb (bit_and (get_or events (e / 64) 0) m) m) ≡ (eqb need 1 && not (is_posted events e))
shift-missing events e zero h i = rw (i, zero-mul, and_zero_r (get_or events (e / 64) 0))
shift-missing events e (suc zero) h i =
    rw (i, mask e, mask-bit, posted-bit events e) (go (event_bit events e) (omega arith))
  where
    go : (t : ℕ) → t < 2 → not (eqb (t * 2 ^ (e % 64)) (2 ^ (e % 64))) ≡ not (eqb t 1)
    go zero h = rw (zero-mul, ne_eqb 0 (2 ^ (e % 64)) (λ z. omega (arith, z, pow_pos (e % 64))))
    go (suc zero) h = rw (one-mul, eq-eqb (2 ^ (e % 64)) (2 ^ (e % 64)) refl)
    go (suc (suc t)) h = absurd (omega arith)
shift-missing events e (suc (suc n)) h i = absurd (omega arith)

-- ---- after a post

pub with_post-length : (events : List ℕ) (e : ℕ) → length (with_post events e) ≡ length events
unfolding with_post
with_post-length events e = simp length-set

-- e is posted, and each other event as before
pub posted-after : (events : List ℕ) (e d : ℕ) → length events ≡ 4 → e < 256
    → is_posted (with_post events e) d ≡ (eqb e d || is_posted events d)
unfolding with_post
posted-after events e d h l = posted-bit (set events (e / 64) word) d ∙ go (equal? d e) (equal? (d / 64) (e / 64))
  where
    word : ℕ
    word = bit_or (get_or events (e / 64) 0) (2 ^ (e % 64))

    there : e / 64 < length events
    there = omega arith

    here : get_or (set events (e / 64) word) (e / 64) 0 ≡ word
    here = get_or-set_same events (e / 64) word 0 there

    go : (d ≡ e) ⊎ (d ≢ e) → (d / 64 ≡ e / 64) ⊎ (d / 64 ≢ e / 64)
        → eqb (event_bit (set events (e / 64) word) d) 1 ≡ (eqb e d || is_posted events d)
    go (inl i) j =
        rw (eq-eqb e d (sym i)) (rw (i, here, or-bit, bit-same)
        (eq-eqb (max (event_bit events e) 1) 1 (omega arith)))
    go (inr i) (inl j) =
        let other : (e % 64) ≢ (d % 64) = λ z. i (omega arith) in
        let none = bit-other (e % 64) (d % 64) other in
        rw (ne_eqb e d (λ z. i (sym z)), posted-bit events d, j, here, or-bit, none, max-zero)
    go (inr i) (inr j) =
        rw (ne_eqb e d (λ z. i (sym z)), posted-bit events d, get_or-set_other events (e / 64) (d / 64) word 0 j)

-- an event that is posted already stays so, and nothing changes
pub posted-again : (events : List ℕ) (e : ℕ) → is_posted events e ≡ true → with_post events e ≡ events
unfolding with_post is_posted
posted-again events e h = rw (word (event_bit events e) refl (omega arith)) (set-get_or events (e / 64) 0)
  where
    old : ℕ
    old = get_or events (e / 64) 0

    word : (b : ℕ) → event_bit events e ≡ b → b < 2 → bit_or old (2 ^ (e % 64)) ≡ old
    word zero i l =
        let unset : not (eqb (bit_and old (2 ^ (e % 64))) 0) ≡ false = rw (mask-bit old (e % 64), i, zero-mul) in
        absurd (zero_one cc)
    word (suc zero) i l =
        let mask : bit_and old (2 ^ (e % 64)) ≡ 2 ^ (e % 64) = mask-bit old (e % 64) ∙ rw (i, one-mul) in
        omega (arith, or_add_and old (2 ^ (e % 64)), mask)
    word (suc (suc b)) i l = absurd (omega arith)

-- ---- at the start

pub posted-start : (e : ℕ) → is_posted (replicate 4 0) e ≡ false
posted-start e =
    posted-bit (replicate 4 0) e ∙ rw (zeros 4 (e / 64), div-eq_of_lt (pow_pos (e % 64)))
