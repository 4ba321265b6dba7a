-- Pairs of operations of two workers. In order: how many numbers pass a test; there are no more races than such pairs;
-- counting the pairs.
use mathlib.Core.Bool.{Bool, true, false, not, true≢false}
use mathlib.Core.List.{List}
use mathlib.Core.Logic.{inl, inr}
use mathlib.Core.Path.{◌≡◌, refl, sym, ap, ◌∙◌}
use native.Mathlib.Numerals.{add-one}
use native.Mathlib.Omega.{arith}
use Prim.Native.Nat.{ℕ, zero, suc, ◌+◌, ◌*◌, ◌-◌, ◌<◌, ◌≤◌}
use lib.ListN.{length, get_or, set, length-set}
use lib.Seq.{get_or-set_same, get_or-set_other}
use mir.Val.{bool_byte}
use borrow.Author.Tests.{eq-eqb, ne_eqb, eqb-true, not-false}
use Rattle.basics.proofs.Booleans.{equal?}
use Rattle.trace.specs.Trace.{Trace, size, worker_of}
use Rattle.model.specs.Rule.{WorkersKnown}
use Rattle.race_model.specs.RaceList.{is_race, races_below, race_count}
use Rattle.words.specs.Passing.{passing}
use Rattle.words.proofs.Passing.{passing-count, passing-zero, passing-end}
use Rattle.pair_count.specs.Pairs.{is_of, pairs_below, pair_count}
use Rattle.race_model.proofs.RaceTests.{race-same-worker, no-race-ahead}
use Rattle.race_model.proofs.RowLists.{below-start, below-count, below_all}

-- ---- how many numbers pass a test

-- those that pass, and those that do not
passing-split : (f : ℕ → Bool) (k : ℕ) → length (passing f k) + length (passing (λ a. not (f a)) k) ≡ k
passing-split f zero = omega (arith, passing-zero f, passing-zero (λ a. not (f a)))
passing-split f (suc k) =
    omega (arith, passing-split f k, passing-count f k, passing-count (λ a. not (f a)) k, bit_not (f k))
  where
    bit_not : (r : Bool) → bool_byte r + bool_byte (not r) ≡ 1
    bit_not true = refl
    bit_not false = refl

passing-fewer : (f g : ℕ → Bool) (k : ℕ) → ((a : ℕ) → a < k → g a ≡ false → f a ≡ false)
    → length (passing f k) ≤ length (passing g k)
passing-fewer f g zero h = omega (arith, passing-zero f, passing-zero g)
passing-fewer f g (suc k) h =
    let before = passing-fewer f g k (λ a l. h a (omega arith)) in
    omega (arith, before, passing-count f k, passing-count g k, bits (f k) (g k) (h k (omega arith)))
  where
    bits : (r s : Bool) → (s ≡ false → r ≡ false) → bool_byte r ≤ bool_byte s
    bits true true h = omega arith
    bits false true h = omega arith
    bits false false h = omega arith
    bits true false h = absurd (true≢false (h refl))

-- ---- no more races than pairs

module _ (t : Trace) where
  -- the races of the m lowest operations with those below k
  abbrev rows_to : ℕ → ℕ → ℕ
  rows_to zero k = 0
  rows_to (suc m) k = rows_to m k + length (passing (is_race t m) k)

  rows_none : (m : ℕ) → rows_to m 0 ≡ 0
  rows_none zero = refl
  rows_none (suc m) = omega (arith, rows_none m, passing-zero (is_race t m))

  -- with one higher operation more
  rows_more : (m k : ℕ) → rows_to m (suc k) ≡ rows_to m k + length (passing (λ a. is_race t a k) m)
  rows_more zero k = omega (arith, passing-zero (λ a. is_race t a k))
  rows_more (suc m) k =
      omega (arith, rows_more m k, passing-count (is_race t m) k, passing-count (λ a. is_race t a k) m)

  rows-below : (m : ℕ) → length (races_below t m) ≡ rows_to m (size t)
  rows-below zero = ap length (below-start t)
  rows-below (suc m) = omega (arith, below-count t m, rows-below m)

  module _ (w : WorkersKnown t) where
    rows-pairs : (k : ℕ) → k ≤ size t → rows_to (size t) k ≤ pairs_below t k
    unfolding pairs_below
    rows-pairs zero l = omega (arith, rows_none (size t))
    rows-pairs (suc k) l =
        let before = rows-pairs k (omega arith) in
        let fewer = passing-fewer (λ a. is_race t a k) (λ a. not (is_of t (worker_of t k) a)) k apart in
        omega (arith, before, fewer, ap length ahead, rows_more (size t) k)
      where
        apart : (a : ℕ) → a < k → not (is_of t (worker_of t k) a) ≡ false → is_race t a k ≡ false
        apart a i e = race-same-worker t a k w i (eqb-true _ _ (not-false _ e))

        ahead : passing (λ a. is_race t a k) (size t) ≡ passing (λ a. is_race t a k) k
        ahead = passing-end (λ a. is_race t a k) k (size t) (omega arith) (λ a i. no-race-ahead t a k i)

    pub races-pairs : race_count t ≤ pair_count t
    races-pairs = omega (arith, rows-pairs (size t) (omega arith), rows-below (size t), ap length (below_all t))

-- ---- counting the pairs

-- those below k are counted; `seen` says how many operations below k each worker has
pub record Paired (t : Trace) (k : ℕ) (seen : List ℕ) (count : ℕ) : Type 0 where
  pub below : k ≤ size t
  pub long : length seen ≡ 16
  pub each : (q : ℕ) → q < 16 → get_or seen q 0 ≡ length (passing (is_of t q) k)
  pub counts : count ≡ pairs_below t k
  pub few : count ≤ 1024 * k

module _ (t : Trace) {seen : List ℕ} where
  pub paired_none : length seen ≡ 16 → ((q : ℕ) → q < 16 → get_or seen q 0 ≡ 0) → Paired t 0 seen 0
  unfolding pairs_below
  paired_none e h =
      record {
        below = omega arith;
        long = e;
        each = λ q l. h q l ∙ sym (passing-zero (is_of t q));
        counts = refl;
        few = omega arith;
      }

  module _ {k count : ℕ} (p : Paired t k seen count) where
    -- worker q has no more operations below k than there are
    pub paired-seen : (q : ℕ) → q < 16 → get_or seen q 0 ≤ k
    paired-seen q l = omega (arith, p.each q l, passing-split (is_of t q) k)

    pub paired-more : {q : ℕ} → q < 16 → k < size t → size t ≤ 1024 → q ≡ worker_of t k
        → Paired t (k + 1) (set seen q (get_or seen q 0 + 1)) (count + (k - get_or seen q 0))
    unfolding pairs_below
    paired-more {q} l i m e =
        record {
          below = omega arith;
          long = simp length-set p.long;
          each = each;
          counts = rw (add-one, ← e) (omega (arith, p.counts, others));
          few = omega (arith, p.few);
        }
      where
        others : k - get_or seen q 0 ≡ length (passing (λ a. not (is_of t q a)) k)
        others = omega (arith, p.each q l, passing-split (is_of t q) k)

        passing-count-at : (r : ℕ)
            → length (passing (is_of t r) (k + 1)) ≡ length (passing (is_of t r) k) + bool_byte (is_of t r k)
        passing-count-at r = rw add-one (passing-count (is_of t r) k)

        each : (r : ℕ) → r < 16
            → get_or (set seen q (get_or seen q 0 + 1)) r 0 ≡ length (passing (is_of t r) (k + 1))
        each r j = elim (equal? r q) [
          | inl z ↦
              rw (z, get_or-set_same seen q (get_or seen q 0 + 1) 0 (omega (arith, p.long)), passing-count-at q)
              (omega (arith, p.each q l, ap bool_byte (eq-eqb (worker_of t k) q (sym e))))
          | inr d ↦
              rw (get_or-set_other seen q r (get_or seen q 0 + 1) 0 d, passing-count-at r)
              (omega (arith, p.each r j, ap bool_byte (ne_eqb (worker_of t k) r (λ z. d (sym z ∙ sym e)))))
        ]

    pub paired-all : size t ≤ k → count ≡ pair_count t
    paired-all l = let e : k ≡ size t = omega (arith, p.below) in rw e at p.counts
