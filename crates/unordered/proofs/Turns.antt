-- Operations taken in and let out. In order: a state with one pair of ends moved; an operation taken in, one let out.
use mathlib.Core.Bool.{Bool, true, false, not, ◌&&◌, ◌||◌}
use mathlib.Core.Logic.{inl, inr, ◌≢◌}
use mathlib.Core.Path.{◌≡◌, refl, sym, ap, ◌∙◌}
use native.Mathlib.Omega.{arith}
use Prim.Native.Nat.{ℕ, ◌+◌, ◌*◌, ◌/◌, ◌%◌, ◌<◌, ◌≤◌}
use lib.Dec.{eqb}
use lib.ListN.{length, get_or, set}
use lib.Seq.{get_or-set_same, get_or-set_other}
use borrow.Author.Tests.{ne_eqb}
use Rattle.basics.proofs.Booleans.{equal?}
use Rattle.trace.specs.Trace.{Trace, size, worker_of}
use Rattle.model.specs.Computed.{must_precede_in}
use Rattle.words.specs.Words.{With, Without}
use Rattle.unordered.specs.declared.Unordered.{Unordered}
use Rattle.unordered.specs.Kept.{IsOf, NextAt, held, low_of, high_of, between, Ends}
use Rattle.unordered.specs.Turns.{Turn}
use Rattle.unordered.proofs.Ends.{of-few, more-ends, less-ends, between_more, between-less}
use Rattle.unordered.proofs.HeldBits.{or-false, and-true, held-elsewhere, held_with, held-without}
use Rattle.unordered.proofs.Order.{Given}

-- ---- a state with one pair of ends moved

-- the ends of the other pairs, and the other sets, are as they were
pub record Moved (t : Trace) (w q : ℕ) (kept kept' : Unordered) : Type 0 where
  pub next_same : kept'.next ≡ kept.next
  pub low : (v r : ℕ) → v < 16 → r < 16 → 16 * v + r ≢ 16 * w + q → low_of kept' v r ≡ low_of kept v r
  pub high : (v r : ℕ) → v < 16 → r < 16 → 16 * v + r ≢ 16 * w + q → high_of kept' v r ≡ high_of kept v r
  pub sets : (v b : ℕ) → v ≢ w → v < 16 → b < 1024 → held kept' v b ≡ held kept v b
  pub due_same : kept'.due ≡ kept.due
  pub gone_same : kept'.gone ≡ kept.gone

module _ {t : Trace} (g : Given t) {a w q : ℕ} (turn : IsOf t w a) (few : q < t.workers) {kept kept' : Unordered}
    (s : Turn t a w q kept) (m : Moved t w q kept kept') where
  turn_moved : Ends t a w q (low_of kept' w q) (high_of kept' w q)
      → ((r b : ℕ) → IsOf t r b → held kept' w b ≡ between (low_of kept' w r) (high_of kept' w r) b)
      → ((b : ℕ) → size t ≤ b → b < 1024 → held kept' w b ≡ false)
      → Turn t a w q kept'
  turn_moved e here past =
      record {
        state = record { nexts = rw m.next_same s.state.nexts; ends = ends; sets = sets; rest = rest };
        settled = λ r l.
            rw (
              m.low w r (omega (arith, of-few g turn, g.most)) (omega (arith, g.most)) (λ z. omega (arith, z)),
              m.high w r (omega (arith, of-few g turn, g.most)) (omega (arith, g.most)) (λ z. omega (arith, z)),
            )
            (s.settled r l);
      }
    where
      ends : (v r : ℕ) → v < t.workers → r < t.workers → Ends t a v r (low_of kept' v r) (high_of kept' v r)
      ends v r i j = elim (equal? (16 * v + r) (16 * w + q)) [
        | inl z ↦
            let x : v ≡ w = omega (arith, g.most) in
            let y : r ≡ q = omega (arith, g.most) in
            rw (x, y) e
        | inr z ↦
            rw (
              m.low v r (omega (arith, g.most)) (omega (arith, g.most)) z,
              m.high v r (omega (arith, g.most)) (omega (arith, g.most)) z,
            )
            (s.state.ends v r i j)
      ]

      sets : {r b : ℕ} (v : ℕ) → v < t.workers → IsOf t r b
          → held kept' v b ≡ between (low_of kept' v r) (high_of kept' v r) b
      sets {r} {b} v i o = elim (equal? v w) [
        | inl z ↦ rw z (here r b o)
        | inr z ↦
            let r-few : r < 16 = omega (arith, g.most, of-few g o) in
            rw (
              m.low v r (omega (arith, g.most)) r-few (λ y. z (omega (arith, y, g.most))),
              m.high v r (omega (arith, g.most)) r-few (λ y. z (omega (arith, y, g.most))),
            )
            (m.sets v b z (omega (arith, g.most)) (omega (arith, g.few, o.below)) ∙ s.state.sets v i o)
      ]

      rest : (v b : ℕ) → v < t.workers → size t ≤ b → b < 1024 → held kept' v b ≡ false
      rest v b i l o = elim (equal? v w) [
        | inl z ↦ rw z (past b l o)
        | inr z ↦ m.sets v b z (omega (arith, g.most)) o ∙ s.state.rest v b i l o
      ]

-- ---- an operation taken in, one let out

-- how long the arrays are
pub record Sized (kept : Unordered) : Type 0 where
  pub sets : length kept.sets ≡ 512
  pub high : length kept.high ≡ 256
  pub low : length kept.low ≡ 256

-- a word of w's set and one end stored
abbrev pub taken : Unordered → ℕ → ℕ → ℕ → ℕ → ℕ → Unordered
taken kept w q k x y =
    record {
      next = kept.next;
      sets = set kept.sets (32 * w + k / 32) x;
      high = set kept.high (16 * w + q) y;
      low = kept.low;
      due = kept.due;
      gone = kept.gone;
    }

abbrev pub left : Unordered → ℕ → ℕ → ℕ → ℕ → ℕ → Unordered
left kept w q k x y =
    record {
      next = kept.next;
      sets = set kept.sets (32 * w + k / 32) x;
      high = kept.high;
      low = set kept.low (16 * w + q) y;
      due = kept.due;
      gone = kept.gone;
    }

module _ {t : Trace} (g : Given t) {a w q : ℕ} (turn : IsOf t w a) (few : q < t.workers) {kept : Unordered}
    (s : Turn t a w q kept) {k : ℕ} (o : IsOf t q k)
  where
    w-few : w < 16
    w-few = omega (arith, of-few g turn, g.most)

    q-few : q < 16
    q-few = omega (arith, g.most)

    at-few : 32 * w + k / 32 < 512
    at-few = omega (arith, w-few, o.below, g.few)

    -- the other sets
    sets-moved : (kept' : Unordered) (x : ℕ) → kept'.sets ≡ set kept.sets (32 * w + k / 32) x
        → (v b : ℕ) → v ≢ w → v < 16 → b < 1024 → held kept' v b ≡ held kept v b
    sets-moved kept' x e v b n l m =
        held-elsewhere kept kept' (32 * w + k / 32) x v b e (λ z. n (omega (arith, z, o.below, g.few)))

    pub take-moved : (x y : ℕ) → Moved t w q kept (taken kept w q k x y)
    take-moved x y =
        record {
          next_same = refl;
          low = λ v r l m n. refl;
          high = λ v r l m n. get_or-set_other kept.high (16 * w + q) (16 * v + r) y 0 n;
          sets = sets-moved _ x refl;
          due_same = refl;
          gone_same = refl;
        }

    pub let-moved : (x y : ℕ) → Moved t w q kept (left kept w q k x y)
    let-moved x y =
        record {
          next_same = refl;
          low = λ v r l m n. get_or-set_other kept.low (16 * w + q) (16 * v + r) y 0 n;
          high = λ v r l m n. refl;
          sets = sets-moved _ x refl;
          due_same = refl;
          gone_same = refl;
        }

    -- the set holds k, and the high end is y
    pub take-one : {x y : ℕ} → Sized kept → k ≡ high_of kept w q → must_precede_in t a k ≡ false → NextAt t q (k + 1) y
        → With (get_or kept.sets (32 * w + k / 32) 0) (k % 32) x → Turn t a w q (taken kept w q k x y)
    take-one {x} {y} sized e un n sx = turn_moved g turn few s m ends here past
      where
        kept' : Unordered
        kept' = taken kept w q k x y

        m : Moved t w q kept kept'
        m = take-moved x y

        high : high_of kept' w q ≡ y
        high = get_or-set_same kept.high (16 * w + q) y 0 (omega (arith, sized.high, w-few, q-few))

        old : Ends t a w q (low_of kept w q) k
        old = rw e (s.state.ends w q (of-few g turn) few)

        ends : Ends t a w q (low_of kept' w q) (high_of kept' w q)
        ends = rw high (more-ends g turn old o.below un n)

        bit : (b : ℕ) → b < 1024 → held kept' w b ≡ held kept w b || eqb b k
        bit b l =
            held_with kept kept' w k x (omega (arith, at-few, sized.sets)) refl sx b

        here : (r b : ℕ) → IsOf t r b → held kept' w b ≡ between (low_of kept' w r) (high_of kept' w r) b
        here r b i =
            bit b (omega (arith, i.below, g.few))
            ∙ ap (λ (v : Bool). v || eqb b k) (s.state.sets w (of-few g turn) i)
            ∙ elim (equal? r q) [
              | inl z ↦ rw (z, high, ← e) (sym (between_more n (rw z at i) (low_of kept w q) old.ascend))
              | inr z ↦
                  rw (
                    m.low w r w-few (omega (arith, of-few g i, g.most)) (λ v. z (omega (arith, v))),
                    m.high w r w-few (omega (arith, of-few g i, g.most)) (λ v. z (omega (arith, v))),
                    ne_eqb b k (λ v. z (sym i.worker ∙ ap (worker_of t) v ∙ o.worker)),
                  )
                  (or-false _)
            ]

        past : (b : ℕ) → size t ≤ b → b < 1024 → held kept' w b ≡ false
        past b l i =
            bit b i
            ∙ rw (s.state.rest w b (of-few g turn) l i, ne_eqb b k (λ z. omega (arith, z, o.below)))

    -- the set does not hold k, and the low end is y
    pub let-one : {x y : ℕ} → Sized kept → k ≡ low_of kept w q → k < high_of kept w q → must_precede_in t k a ≡ true
        → NextAt t q (k + 1) y → Without (get_or kept.sets (32 * w + k / 32) 0) (k % 32) x
        → Turn t a w q (left kept w q k x y)
    let-one {x} {y} sized e below c n sx = turn_moved g turn few s m ends here past
      where
        kept' : Unordered
        kept' = left kept w q k x y

        m : Moved t w q kept kept'
        m = let-moved x y

        low : low_of kept' w q ≡ y
        low = get_or-set_same kept.low (16 * w + q) y 0 (omega (arith, sized.low, w-few, q-few))

        old : Ends t a w q k (high_of kept w q)
        old = rw e (s.state.ends w q (of-few g turn) few)

        ends : Ends t a w q (low_of kept' w q) (high_of kept' w q)
        ends = rw low (less-ends g turn old below c n)

        bit : (b : ℕ) → b < 1024 → held kept' w b ≡ held kept w b && not (eqb b k)
        bit b l =
            held-without kept kept' w k x (omega (arith, at-few, sized.sets)) refl sx b

        here : (r b : ℕ) → IsOf t r b → held kept' w b ≡ between (low_of kept' w r) (high_of kept' w r) b
        here r b i =
            bit b (omega (arith, i.below, g.few))
            ∙ ap (λ (v : Bool). v && not (eqb b k)) (s.state.sets w (of-few g turn) i)
            ∙ elim (equal? r q) [
              | inl z ↦ rw (z, low, ← e) (sym (between-less n (rw z at i) (high_of kept w q) below))
              | inr z ↦
                  rw (
                    m.low w r w-few (omega (arith, of-few g i, g.most)) (λ v. z (omega (arith, v))),
                    m.high w r w-few (omega (arith, of-few g i, g.most)) (λ v. z (omega (arith, v))),
                    ne_eqb b k (λ v. z (sym i.worker ∙ ap (worker_of t) v ∙ o.worker)),
                  )
                  (and-true _)
            ]

        past : (b : ℕ) → size t ≤ b → b < 1024 → held kept' w b ≡ false
        past b l i = bit b i ∙ rw (s.state.rest w b (of-few g turn) l i)
