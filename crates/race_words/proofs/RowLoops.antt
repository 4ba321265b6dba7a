-- A row of races, word by word. In order: the words so far, with one more; counting; listing.
use mathlib.Core.List.{List, [], ◌++◌}
use mathlib.Core.Path.{◌≡◌, sym, ap, ◌∙◌}
use native.Mathlib.Omega.{arith}
use Prim.Native.Nat.{ℕ, ◌+◌, ◌*◌, ◌/◌, ◌<◌, ◌≤◌}
use lib.ListN.{length, take, length-append, length-map}
use Rattle.trace.specs.Trace.{Trace, size}
use Rattle.words.specs.Passing.{passing}
use Rattle.words.specs.Words.{is_in, raised}
use Rattle.word_lists.specs.Lists.{Room, Listed}
use Rattle.words.proofs.Passing.{passing-none, passing-end, passing-agree, passing-raised, passing-few}
use Rattle.race_model.specs.RaceList.{is_race}
use Rattle.race_model.specs.RaceRows.{race_row, RowHolds}
use Rattle.race_model.proofs.RaceTests.{no-race-ahead, no-race-outside}
use Rattle.race_words.specs.RaceWords.{RaceWord}

-- ---- the words so far

-- the higher operations below 32 v of the races with a
abbrev pub row_to : Trace → ℕ → ℕ → List ℕ
row_to t a v = passing (is_race t a) (32 * v)

module _ (t : Trace) (a : ℕ) where
  row-start : row_to t a (a / 32) ≡ []
  row-start = passing-none (is_race t a) (32 * (a / 32)) (λ k l. no-race-ahead t a k (omega arith))

  row-end : (v : ℕ) → size t ≤ 32 * v → row_to t a v ≡ race_row t a
  row-end v l = passing-end (is_race t a) (size t) (32 * v) l (λ k m. no-race-outside t a k m)

  row_more : {v x : ℕ} → RaceWord t a v x → row_to t a (v + 1) ≡ row_to t a v ++ raised (32 * v) (passing (is_in x) 32)
  row_more {v} {x} r =
      ap (λ (n : ℕ). passing (is_race t a) n) next
      ∙ rw (passing-agree (is_in x) (λ i. is_race t a (32 * v + i)) 32 (λ i l. r.each i l))
      (passing-raised (is_race t a) (32 * v) 32)
    where
      next : 32 * (v + 1) ≡ 32 * v + 32
      next = omega arith

-- ---- counting

-- the races with the operations below 32 v are counted
pub record CountedTo (t : Trace) (a v count : ℕ) : Type 0 where
  pub counts : count ≡ length (row_to t a v)

module _ {t : Trace} {a : ℕ} where
  pub counted_start : CountedTo t a (a / 32) 0
  counted_start = record { counts = sym (ap length (row-start t a)) }

  module _ {v count : ℕ} (c : CountedTo t a v count) where
    pub counted-few : count ≤ 32 * v
    counted-few = omega (arith, c.counts, passing-few (is_race t a) (32 * v))

    pub counted-more : {x more : ℕ} → RaceWord t a v x → more ≡ length (passing (is_in x) 32)
        → CountedTo t a (v + 1) (count + more)
    counted-more {x} {more} r e =
        record {
          counts =
              rw (row_more t a r, length-append, length-map (passing (is_in x) 32) (λ i. 32 * v + i))
              (omega (arith, c.counts, e));
        }

    pub counted-end : size t ≤ 32 * v → count ≡ length (race_row t a)
    counted-end l = c.counts ∙ ap length (row-end t a v l)

-- ---- listing

-- the races with the operations below 32 v are listed
pub record ListedTo (t : Trace) (a v : ℕ) (row : List ℕ) (at : ℕ) : Type 0 where
  pub long : length row ≡ 1024
  pub counts : at ≡ length (row_to t a v)
  pub front : take at row ≡ row_to t a v

module _ {t : Trace} {a : ℕ} {row : List ℕ} where
  pub listed_start : length row ≡ 1024 → ListedTo t a (a / 32) row 0
  listed_start e =
      record {
        long = e;
        counts = sym (ap length (row-start t a));
        front = sym (row-start t a);
      }

  module _ {v at : ℕ} (c : ListedTo t a v row at) where
    pub listed-room : v < 32 → Room (32 * v) at row
    listed-room l =
        record {
          ahead = omega (arith, c.counts, passing-few (is_race t a) (32 * v));
          few = omega arith;
          long = c.long;
        }

    pub listed_more : {x end : ℕ} {row' : List ℕ} → RaceWord t a v x → Listed x 32 (32 * v) at row row' end
        → ListedTo t a (v + 1) row' end
    listed_more {x} r l =
        record {
          long = l.long;
          counts =
              rw (row_more t a r, length-append, length-map (passing (is_in x) 32) (λ i. 32 * v + i))
              (omega (arith, c.counts, l.counted));
          front = l.front ∙ rw c.front (sym (row_more t a r));
        }

    pub listed-end : v ≤ 32 → size t ≤ 32 * v → RowHolds (race_row t a) at row
    listed-end m l =
        record {
          long = c.long;
          few = omega (arith, c.counts, passing-few (is_race t a) (32 * v));
          front = c.front ∙ row-end t a v l;
        }
