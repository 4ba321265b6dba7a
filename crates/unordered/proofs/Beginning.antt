-- The state before the first operation. In order: setting the ends; the state.
use mathlib.Core.Bool.{false}
use mathlib.Core.List.{List}
use mathlib.Core.Logic.{inl, inr, ◌≢◌}
use mathlib.Core.Path.{◌≡◌, refl, sym, ◌∙◌}
use native.Mathlib.Omega.{arith}
use Prim.Native.Nat.{ℕ, ◌+◌, ◌*◌, ◌/◌, ◌%◌, ◌<◌, ◌≤◌}
use lib.Dec.{leb}
use lib.ListN.{length, get_or, set, length-set, replicate, get_or-replicate}
use lib.Seq.{get_or-set_same, get_or-set_other}
use borrow.Author.Tests.{le-ltb, lt-leb, eq-eqb, ne_eqb}
use Rattle.basics.proofs.Booleans.{equal?, less?}
use Rattle.trace.specs.Premises.{HoldsTrace}
use Rattle.trace.specs.Reading.{trace_of}
use Rattle.trace.specs.Trace.{Trace, size, worker_of}
use Rattle.words.proofs.Sets.{in-past}
use Rattle.unordered.specs.declared.Unordered.{Unordered}
use Rattle.unordered.specs.Beginning.{ReadFrom, first_end, EndsSet}
use Rattle.unordered.specs.Kept.{HoldsNext, held, between, Ends, Kept, Carried}
use Rattle.unordered.proofs.NextOperations.{none-at}
use Rattle.unordered.proofs.Results.{and-false}

-- ---- setting the ends

module _ (firsts : List ℕ) where
  pub end-own : (i : ℕ) → i / 16 ≡ i % 16 → first_end firsts i ≡ 1024
  unfolding first_end
  end-own i e = rw (eq-eqb (i / 16) (i % 16) e)

  pub end-other : (i : ℕ) → i / 16 ≢ i % 16 → first_end firsts i ≡ get_or firsts (i % 16) 0
  unfolding first_end
  end-other i d = rw (ne_eqb (i / 16) (i % 16) d)

  pub set-start : {ends : List ℕ} → length ends ≡ 256 → EndsSet firsts 0 ends
  set-start long = record { few = omega arith; long = long; each = λ j m. absurd (omega arith) }

  module _ {i : ℕ} {ends : List ℕ} (s : EndsSet firsts i ends) where
    pub set_more : {end : ℕ} → i < 256 → end ≡ first_end firsts i
        → EndsSet firsts (i + 1) (set ends i end)
    set_more {end} l e = record { few = omega arith; long = simp length-set s.long; each = each }
      where
        each : (j : ℕ) → j < i + 1 → get_or (set ends i end) j 0 ≡ first_end firsts j
        each j m = elim (equal? j i) [
          | inl z ↦ rw (z, get_or-set_same ends i end 0 (omega (arith, s.long))) e
          | inr z ↦ rw (get_or-set_other ends i j end 0 z) (s.each j (omega (arith, z)))
        ]

    pub set-end : 256 ≤ i → EndsSet firsts 256 ends
    set-end l = let e : i ≡ 256 = omega (arith, s.few) in rw e at s

-- ---- the state

-- where the sets are empty, no rank is kept, and all ends are those of `ends`
abbrev pub starting : List ℕ → List ℕ → Unordered
starting next ends =
    record {
      next = next;
      sets = replicate 512 0;
      high = ends;
      low = ends;
      due = replicate 256 0;
      gone = replicate 256 0;
    }

none-held : (next ends : List ℕ) (w b : ℕ) → 32 * w + b / 32 < 512 → held (starting next ends) w b ≡ false
unfolding held
none-held next ends w b l =
    rw (get_or-replicate {A = ℕ} 512 (32 * w + b / 32) 0 0 l) (in-past 0 0 (b % 32) (omega arith) (omega arith))

none_between : (end b : ℕ) → between end end b ≡ false
none_between end b = elim (less? b end) [
  | inl l ↦ rw (lt-leb end b l)
  | inr l ↦ rw (le-ltb b end l) (and-false (leb end b))
]

module _ {t : Trace} {next firsts ends : List ℕ} (few : size t ≤ 1024) (most : t.workers ≤ 16)
    (known : (k : ℕ) → k < size t → worker_of t k < 16) (nexts : HoldsNext t next)
    (r : ReadFrom t 0 next firsts) (s : EndsSet firsts 256 ends)
  where
    digits : (w q : ℕ) → q < 16 → ((16 * w + q) / 16 ≡ w) × ((16 * w + q) % 16 ≡ q)
    digits w q l = (omega arith, omega arith)

    first-at : (w q : ℕ) → w < 16 → q < 16 → get_or ends (16 * w + q) 0 ≡ first_end firsts (16 * w + q)
    first-at w q i j = s.each (16 * w + q) (omega arith)

    first_ends : (w q : ℕ) → w < 16 → q < 16
        → Ends t 0 w q (first_end firsts (16 * w + q)) (first_end firsts (16 * w + q))
    first_ends w q i j = elim (equal? w q) [ inl e ↦ own e | inr d ↦ other d ]
      where
        own : w ≡ q → Ends t 0 w q (first_end firsts (16 * w + q)) (first_end firsts (16 * w + q))
        own e =
            rw (end-own firsts (16 * w + q) (omega arith))
            (record {
              low_place = none-at q few;
              high_place = none-at q few;
              ascend = omega arith;
              own = λ z. refl;
              before = λ d. absurd (d e);
              not_after = λ d. absurd (d e);
            })

        other : w ≢ q → Ends t 0 w q (first_end firsts (16 * w + q)) (first_end firsts (16 * w + q))
        other d =
            let first = r.first q j in
            rw (end-other firsts (16 * w + q) (λ z. d (omega (arith, z))), (digits w q j).1)
            (record {
              low_place = first.place;
              high_place = first.place;
              ascend = omega arith;
              own = λ z. absurd (d z);
              before = λ c o l k m. absurd (omega (arith, first.least o (omega arith)));
              not_after = λ c o l k m. absurd (omega (arith, first.least o (omega arith)));
            })

    kept-start : Kept t 0 (starting next ends)
    kept-start =
        record {
          nexts = nexts;
          ends = λ w q i j.
              rw (first-at w q (omega arith) (omega arith)) (first_ends w q (omega arith) (omega arith));
          sets = λ {q} {b} w i o.
              none-held next ends w b (omega (arith, o.below)) ∙ sym (none_between (get_or ends (16 * w + q) 0) b);
          rest = λ w b i l m. none-held next ends w b (omega arith);
        }

-- with what the code has read
pub begun : {bytes : List ℕ} {p n : ℕ} {next firsts ends : List ℕ} → HoldsTrace bytes p n
    → HoldsNext (trace_of bytes) next → ReadFrom (trace_of bytes) 0 next firsts → EndsSet firsts 256 ends
    → (table : List ℕ) → Carried (trace_of bytes) table 0 (starting next ends)
begun {bytes} h e r s table =
    let most : (trace_of bytes).workers ≤ 16 = omega (arith, h.workers, h.most) in
    record {
      state =
          kept-start (omega (arith, h.count, h.few)) most
          (λ k l. omega (arith, (h.each k (rw h.count at l)).worker, h.most)) e r s;
      ranks =
          record {
            each = λ w q i j.
                record {
                  due = omega (arith, get_or-replicate {A = ℕ} 256 (16 * w + q) 0 0 (omega arith));
                  gone = omega (arith, get_or-replicate {A = ℕ} 256 (16 * w + q) 0 0 (omega arith));
                };
          };
    }
