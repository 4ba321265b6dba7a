-- Notes. In order: how they begin; a slot is taken; a block is noted.
use mathlib.Core.Bool.{true, false, ◌&&◌, ◌||◌, or-true, or-false, true≢false}
use mathlib.Core.List.{List, ◌++◌}
use mathlib.Core.Logic.{inl, inr, ◌≢◌}
use mathlib.Core.Path.{◌≡◌, refl, sym, ap, ◌∙◌}
use native.Mathlib.Omega.{arith}
use Prim.Native.Nat.{ℕ, ◌+◌, ◌*◌, ◌-◌, ◌/◌, ◌%◌, ◌<◌, ◌≤◌}
use lib.Dec.{eqb}
use lib.ListN.{length, get_or, set, take, get_or-append}
use lib.Seq.{get_or-set_same, get_or-set_other, get_or-append-add, get_or-take, get_or-drop, length-take-le}
use borrow.Rule.Slice.PartMut.{put_mid, post_of}
use borrow.Author.Tests.{eqb-true, eq-eqb, ne_eqb}
use Rattle.std.proofs.lemmas.Slice.{take-put_mid_below, drop-put_mid}
use Rattle.basics.proofs.Booleans.{both_true, equal?, less?}
use Rattle.words.specs.Words.{With}
use Rattle.words.proofs.Sets.{none_in}
use Rattle.conflicts.specs.declared.Cells.{Cells}
use Rattle.conflicts.specs.Cells.{place, met_at, BlockMet}
use Rattle.meetings.specs.declared.Meetings.{Meetings}
use Rattle.meetings.specs.Meetings.{first_of, last_of, is_noted, met_in, Forgotten, Notes, SlotFor, BlockNoted}

-- ---- nothing is noted

pub forgotten-notes : {seen : Meetings} (cells : Cells) → Forgotten seen → Notes cells seen
forgotten-notes {seen} cells f =
    record { each = λ s b l m n. absurd (true≢false (sym n ∙ rw (f.none s l) (none_in (b / 128)))) }

-- ---- a slot is taken

module _ {cells : Cells} {seen : Meetings} (h : Notes cells seen) {s : ℕ} (l : s < 32) (first last : ℕ)
    (x : length seen.first ≡ 32) (y : length seen.last ≡ 32) (z : length seen.noted ≡ 32)
  where
    abbrev taken : Meetings
    taken =
        record {
          met = seen.met;
          first = set seen.first s first;
          last = set seen.last s last;
          noted = set seen.noted s 0;
        }

    pub taken-notes : Notes cells taken
    taken-notes = record { each = each }
      where
        each : (k b : ℕ) → k < 32 → b < 1024 → is_noted taken k (b / 128) ≡ true
            → met_in taken k b ≡ met_at cells (first_of taken k) (last_of taken k) (place b)
        each k b i j n = elim (equal? k s) [
          | inl e ↦
              let none = get_or-set_same seen.noted s 0 0 (omega arith) in
              absurd (true≢false (sym n ∙ rw (e, none) (none_in (b / 128))))
          | inr d ↦
              rw (get_or-set_other seen.first s k first 0 d, get_or-set_other seen.last s k last 0 d)
              (h.each k b i j (rw (get_or-set_other seen.noted s k 0 0 d) at n))
        ]

    pub taken-for : {a : ℕ} → first ≡ get_or cells.first (place a) 0 → last ≡ get_or cells.last (place a) 0
        → SlotFor cells taken a s
    taken-for e f =
        record {
          few = l;
          first = get_or-set_same seen.first s first 0 (omega arith) ∙ e;
          last = get_or-set_same seen.last s last 0 (omega arith) ∙ f;
        }

-- the slot is that of the cells already
pub slot_same : {cells : Cells} {seen : Meetings} {a s first last : ℕ} → s < 32
    → eqb (first_of seen s) first && eqb (last_of seen s) last ≡ true → first ≡ get_or cells.first (place a) 0
    → last ≡ get_or cells.last (place a) 0 → SlotFor cells seen a s
slot_same {seen = seen} {s = s} {first} {last} l same e f =
    let (x, y) = both_true (eqb (first_of seen s) first) (eqb (last_of seen s) last) same in
    record { few = l; first = eqb-true _ _ x ∙ e; last = eqb-true _ _ y ∙ f }

-- ---- a block is noted

-- it is already
pub noted-already : {cells : Cells} {seen : Meetings} {s block : ℕ} → Notes cells seen → is_noted seen s block ≡ true
    → BlockNoted cells seen s block seen
noted-already h n =
    record { notes = h; noted = n; still = λ k e. e; first_same = refl; last_same = refl }

-- the words `met`, from place `at` on, in place of those of `words`
pub record Placed (words : List ℕ) (at : ℕ) (met words' : List ℕ) : Type 0 where
  pub here : (i : ℕ) → i < 4 → get_or words' (at + i) 0 ≡ get_or met i 0
  pub ahead : (k : ℕ) → k < at → get_or words' k 0 ≡ get_or words k 0
  pub behind : (k : ℕ) → at + 4 ≤ k → get_or words' k 0 ≡ get_or words k 0

-- the four of a part that is written
pub placed : (at k : ℕ) (words met : List ℕ) → at + 4 ≤ length words → length met ≡ 4 → k ≡ 4
    → Placed words at met (put_mid at k words met)
placed at k words met room four same =
    record {
      here = λ i l.
          rw first at (get_or-append-add (take at words) (met ++ post_of at k words) i 0)
          ∙ get_or-append met (post_of at k words) 0 i (omega arith);
      ahead = λ i l.
          sym (get_or-take at (put_mid at k words met) i 0 l)
          ∙ ap (λ (m : List ℕ). get_or m i 0) (take-put_mid_below at k words met at (omega arith) (omega arith))
          ∙ get_or-take at words i 0 l;
      behind = λ i l.
          let e : at + 4 + (i - (at + 4)) ≡ i = omega arith in
          rw e at (
          sym (get_or-drop (at + 4) (put_mid at k words met) (i - (at + 4)) 0)
          ∙ ap (λ (m : List ℕ). get_or m (i - (at + 4)) 0)
          (drop-put_mid at k words met (at + 4) (omega arith) (omega arith) (omega arith))
          ∙ get_or-drop (at + 4) words (i - (at + 4)) 0);
    }
  where
    first : length (take at words) ≡ at
    first = length-take-le at words (omega arith)

module _ {cells : Cells} {seen : Meetings} {met words : List ℕ} {s block mask : ℕ} (h : Notes cells seen) (l : s < 32)
    (i : block < 8) (z : length seen.noted ≡ 32) (m : BlockMet cells (first_of seen s) (last_of seen s) block met)
    (p : Placed seen.met (32 * s + 4 * block) met words) (w : With (get_or seen.noted s 0) block mask)
  where
    abbrev now : Meetings
    now = record { met = words; first = seen.first; last = seen.last; noted = set seen.noted s mask }

    -- the words of other blocks are as before
    now-word : (k b : ℕ) → k < 32 → b < 1024 → (k ≡ s → b / 128 ≢ block)
        → get_or words (32 * k + b / 32) 0 ≡ get_or seen.met (32 * k + b / 32) 0
    now-word k b x y d = elim (less? (32 * k + b / 32) (32 * s + 4 * block)) [
      | inl o ↦ p.ahead (32 * k + b / 32) o
      | inr o ↦ p.behind (32 * k + b / 32) (apart o)
    ]
      where
        apart : 32 * s + 4 * block ≤ 32 * k + b / 32 → 32 * s + 4 * block + 4 ≤ 32 * k + b / 32
        apart o = elim (equal? k s) [
          | inl e ↦ omega (arith, e, d e)
          | inr f ↦ omega (arith, f)
        ]

    noted-now : (k : ℕ) → is_noted now s k ≡ is_noted seen s k || eqb k block
    noted-now k = rw (get_or-set_same seen.noted s mask 0 (omega (arith, z))) (w.each k)

    now-notes : Notes cells now
    now-notes = record { each = each }
      where
        each : (k b : ℕ) → k < 32 → b < 1024 → is_noted now k (b / 128) ≡ true
            → met_in now k b ≡ met_at cells (first_of seen k) (last_of seen k) (place b)
        each k b x y n =
            elim (equal? k s) [
              | inl e ↦ elim (equal? (b / 128) block) [
                | inl f ↦ here e f
                | inr d ↦ rw (now-word k b x y (λ z. d)) (h.each k b x y (before e d))
              ]
              | inr d ↦
                  rw (now-word k b x y (λ z. absurd (d z)))
                  (h.each k b x y (rw (get_or-set_other seen.noted s k mask 0 d) at n))
            ]
          where
            before : k ≡ s → b / 128 ≢ block → is_noted seen k (b / 128) ≡ true
            before e d = rw e (go (rw (e, noted-now (b / 128), ne_eqb (b / 128) block d) at n))
              where
                go : is_noted seen s (b / 128) || false ≡ true → is_noted seen s (b / 128) ≡ true
                go q = sym (or-false (is_noted seen s (b / 128))) ∙ q

            here : k ≡ s → b / 128 ≡ block
                → met_in now k b ≡ met_at cells (first_of seen k) (last_of seen k) (place b)
            here e f =
                rw (e, word, p.here ((b - 128 * block) / 32) (omega (arith, f)))
                (rw (← rest, ← same) at (m.met (b - 128 * block) (omega (arith, f))))
              where
                word : 32 * s + b / 32 ≡ 32 * s + 4 * block + (b - 128 * block) / 32
                word = omega (arith, f)

                rest : b % 32 ≡ (b - 128 * block) % 32
                rest = omega (arith, f)

                same : b ≡ 128 * block + (b - 128 * block)
                same = omega (arith, f)

    pub block_noted : BlockNoted cells seen s block now
    block_noted =
        record {
          notes = now-notes;
          noted = rw (noted-now block, eq-eqb block block refl) (or-true (is_noted seen s block));
          still = λ k e. rw (noted-now k, e);
          first_same = refl;
          last_same = refl;
        }
