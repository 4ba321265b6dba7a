-- Each worker's next operations, read from the end of the file on.
use mathlib.Core.List.{List}
use mathlib.Core.Logic.{inl, inr, ◌≢◌}
use mathlib.Core.Path.{◌≡◌, refl, sym, ap, ◌∙◌}
use native.Mathlib.Omega.{arith}
use Prim.Native.Nat.{ℕ, ◌+◌, ◌<◌, ◌≤◌}
use lib.ListN.{length, get_or, set, length-set}
use lib.Seq.{get_or-set_same, get_or-set_other}
use Rattle.basics.proofs.Booleans.{equal?}
use Rattle.trace.specs.Trace.{Trace, size, worker_of}
use Rattle.unordered.specs.Beginning.{ReadFrom}
use Rattle.unordered.specs.Kept.{EndAt, NextAt, HoldsNext}

-- there is none
pub none-at : {t : Trace} (q : ℕ) → size t ≤ 1024 → EndAt t q 1024
none-at q few = record { own = λ l. absurd (omega arith); end = λ l. refl }

pub read-start : {t : Trace} {next firsts : List ℕ} → size t ≤ 1024 → length firsts ≡ 16
    → ((q : ℕ) → q < 16 → get_or firsts q 0 ≡ 1024)
    → ReadFrom t (size t) next firsts
read-start few long none =
    record {
      below = omega arith;
      firsts_long = long;
      first = λ q l.
          rw (none q l)
          (record {
            place = none-at q few;
            ahead = few;
            least = λ i m. absurd (omega (arith, i.below));
          });
      nexts = λ j l m. absurd (omega arith);
    }

module _ {t : Trace} {left : ℕ} {next firsts : List ℕ} (s : ReadFrom t left next firsts) where
  pub read_more : {k q : ℕ} → size t ≤ 1024 → length next ≡ 1024 → left ≡ k + 1
      → q ≡ worker_of t k → q < 16 → ReadFrom t k (set next k (get_or firsts q 0)) (set firsts q k)
  read_more {k} {q} few long e w q-few =
      record {
        below = omega (arith, s.below);
        firsts_long = simp length-set s.firsts_long;
        first = first-from;
        nexts = nexts;
      }
    where
      inside : k < size t
      inside = omega (arith, s.below)

      here : NextAt t q k k
      here =
          record {
            place = record { own = λ l. sym w; end = λ l. absurd (omega (arith, inside)) };
            ahead = omega arith;
            least = λ i l. l;
          }

      first-from : (r : ℕ) → r < 16 → NextAt t r k (get_or (set firsts q k) r 0)
      first-from r l = elim (equal? r q) [
        | inl z ↦ rw (z, get_or-set_same firsts q k 0 (omega (arith, s.firsts_long))) here
        | inr z ↦
            let old = rw e at (s.first r l) in
            rw (get_or-set_other firsts q r k 0 z)
            (record {
              place = old.place;
              ahead = omega (arith, old.ahead);
              least = λ {b} i m.
                  let d : k ≢ b = λ y. z (sym i.worker ∙ sym (ap (worker_of t) y) ∙ sym w) in
                  old.least i (omega (arith, d));
            })
      ]

      nexts : (j : ℕ) → k ≤ j → j < size t → NextAt t (worker_of t j) (j + 1) (get_or (set next k (get_or firsts q 0)) j 0)
      nexts j l m = elim (equal? j k) [
        | inl z ↦
            rw (z, get_or-set_same next k (get_or firsts q 0) 0 (omega (arith, long, inside)), ← w)
            (rw e at (s.first q q-few))
        | inr z ↦
            rw (get_or-set_other next k j (get_or firsts q 0) 0 z) (s.nexts j (omega (arith, z)) m)
      ]

  pub read-end : left < 1 → HoldsNext t next × ReadFrom t 0 next firsts
  read-end l =
      let e : left ≡ 0 = omega arith in
      (record { each = λ k m. s.nexts k (omega arith) m }, rw e at s)
