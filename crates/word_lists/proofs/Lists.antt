-- A set listed. In order: a byte of it, number by number, for the loop of `list_byte`; all of it, byte by byte, for the
-- loop of `list`.
use mathlib.Core.List.{List, [], ◌∷◌, ◌++◌, map-append, append-nil, append_assoc}
use mathlib.Core.Logic.{inl, inr}
use mathlib.Core.Path.{◌≡◌, refl, sym, ap, ◌∙◌}
use native.Mathlib.Nat.{add_assoc, add-suc, add-zero}
use native.Mathlib.Omega.{arith}
use Prim.Native.Nat.{ℕ, zero, suc, ◌+◌, ◌*◌, ◌/◌, ◌%◌, ◌^◌, ◌<◌, ◌≤◌}
use lib.ListN.{length, get_or, set, take, length-set, length-append, length-map}
use lib.Seq.{take-length, take-suc, take-suc-set, take-set-le}
use Rattle.basics.proofs.Booleans.{less?}
use Rattle.words.specs.Passing.{passing}
use Rattle.words.specs.Words.{is_in, raised}
use Rattle.words.proofs.Passing.{passing-none, passing-few, passing-agree, passing-raised}
use lib.Pow.{shr-shr}
use Rattle.words.proofs.Sets.{cut_in, none_in}
use Rattle.std.specs.Int.{w32, to_le_bytes}
use Rattle.word_lists.specs.Lists.{Room, ByteRoom, Listed}

-- ---- a byte, number by number

-- the first j numbers of x stand from place `at` on; all of them, where it has no more
pub record ByteBelow (x first at : ℕ) (row₀ : List ℕ) (j : ℕ) (row : List ℕ) : Type 0 where
  pub long : length row ≡ 1024
  pub front : (c : ℕ) → c ≤ j → c ≤ length (passing (is_in x) 8)
      → take (at + c) row ≡ take at row₀ ++ raised first (take c (passing (is_in x) 8))

pub byte-start : (x first at : ℕ) (row : List ℕ) → length row ≡ 1024 → ByteBelow x first at row 0 row
byte-start x first at row long =
    record {
      long = long;
      front = λ c l m. let e : c ≡ 0 = omega arith in rw (e, add-zero) (sym (append-nil (take at row)));
    }

module _ {x first at : ℕ} {row₀ : List ℕ} {j : ℕ} {row : List ℕ} (b : ByteBelow x first at row₀ j row) where
  pub byte_more : {number : ℕ} → at + j < 1024 → number ≡ get_or (passing (is_in x) 8) j 0
      → ByteBelow x first at row₀ (j + 1) (set row (at + j) (first + number))
  byte_more {number} inside e = record { long = simp length-set b.long; front = front }
    where
      numbers : List ℕ
      numbers = passing (is_in x) 8

      front : (c : ℕ) → c ≤ j + 1 → c ≤ length numbers
          → take (at + c) (set row (at + j) (first + number)) ≡ take at row₀ ++ raised first (take c numbers)
      front c m k = elim (less? j c) [
        | inl i ↦
            let f : c ≡ suc j = omega arith in
            rw (f, add-suc, take-suc numbers j 0 (omega arith), map-append, ← e, ← append_assoc)
            (take-suc-set row (at + j) (first + number) (omega (arith, b.long))
            ∙ ap (λ (r : List ℕ). r ++ (first + number) ∷ []) (b.front j (omega arith) (omega arith)))
        | inr i ↦ take-set-le (at + c) row (at + j) (first + number) (omega arith) ∙ b.front c i k
      ]

  pub byte-end : {count : ℕ} → 8 ≤ j → count ≡ length (passing (is_in x) 8)
      → Listed x 8 first at row₀ row (at + count)
  byte-end l e =
      let few = passing-few (is_in x) 8 in
      record {
        long = b.long;
        counted = rw e;
        front = rw e (b.front (length (passing (is_in x) 8)) (omega (arith, few)) (omega arith)
            ∙ rw (take-length (passing (is_in x) 8)));
      }

-- ---- all of it, byte by byte

shifted-in : (x i k : ℕ) → is_in (x / 2 ^ i) k ≡ is_in x (i + k)
unfolding is_in
shifted-in x i k = rw (shr-shr x i k)

raised-twice : (first i : ℕ) (l : List ℕ) → raised first (raised i l) ≡ raised (first + i) l
raised-twice first i [] = refl
raised-twice first i (k ∷ l) =
    rw (raised-twice first i l) (ap (λ (m : ℕ). m ∷ raised (first + i) l) (sym (add_assoc first i k)))

-- the numbers of the first k bytes of x are listed
pub record ListedBelow (x first at : ℕ) (row₀ : List ℕ) (k end : ℕ) (row : List ℕ) : Type 0 where
  pub room : Room first at row₀
  pub listed : Listed x (8 * k) first at row₀ row end

pub word-byte : (x k : ℕ) → k < 4 → get_or (to_le_bytes w32 x) k 0 ≡ x / 2 ^ (8 * k) % 256
word-byte x zero l = omega arith
word-byte x (suc zero) l = omega arith
word-byte x (suc (suc zero)) l = omega arith
word-byte x (suc (suc (suc zero))) l = omega arith
word-byte x (suc (suc (suc (suc k)))) l = absurd (omega arith)

-- of the empty set there is nothing to list
pub list-none : {x first at : ℕ} {row : List ℕ} → Room first at row → x < 1 → Listed x 32 first at row row at
list-none {x} {at = at} {row} r l =
    let e : x ≡ 0 = omega arith in
    let none : passing (is_in x) 32 ≡ [] = rw e (passing-none (is_in 0) 32 (λ k m. none_in k)) in
    record {
      long = r.long;
      counted = rw none (omega arith);
      front = rw none (sym (append-nil (take at row)));
    }

pub list-start : (x : ℕ) {first at : ℕ} {row : List ℕ} → Room first at row → ListedBelow x first at row 0 at row
unfolding passing
list-start x {at = at} {row} r =
    record {
      room = r;
      listed = record {
        long = r.long;
        counted = omega arith;
        front = sym (append-nil (take at row));
      };
    }

module _ {x first at : ℕ} {row₀ : List ℕ} {k end : ℕ} {row : List ℕ} (r : ListedBelow x first at row₀ k end row) where
  pub list_room : k < 4 → ByteRoom (first + 8 * k) end
  list_room l =
      record {
        few = omega (arith, r.room.few);
        inside = omega (arith, r.room.few, r.room.ahead, r.listed.counted, passing-few (is_in x) (8 * k));
      }

  module _ {byte : ℕ} (e : byte ≡ x / 2 ^ (8 * k) % 256) where
    -- the numbers of the first k + 1 bytes are those of the first k, and those of the next byte
    byte-numbers : passing (is_in x) (8 * (k + 1)) ≡ passing (is_in x) (8 * k) ++ raised (8 * k) (passing (is_in byte) 8)
    byte-numbers =
        let more : 8 * (k + 1) ≡ 8 * k + 8 = omega arith in
        rw (more, e)
        (passing-raised (is_in x) (8 * k) 8
        ∙ ap (λ (l : List ℕ). passing (is_in x) (8 * k) ++ raised (8 * k) l)
        (passing-agree (λ i. is_in x (8 * k + i)) (is_in (x / 2 ^ (8 * k) % 256)) 8
        (λ i l. sym (cut_in (x / 2 ^ (8 * k)) 8 i l ∙ shifted-in x (8 * k) i))))

    pub list-more : {end' : ℕ} {row' : List ℕ} → Listed byte 8 (first + 8 * k) end row row' end'
        → ListedBelow x first at row₀ (k + 1) end' row'
    list-more {end'} {row'} b =
        record {
          room = r.room;
          listed = record {
            long = b.long;
            counted = rw (byte-numbers, length-append, length-map) (omega (arith, b.counted, r.listed.counted));
            front = rw (byte-numbers, map-append, raised-twice first (8 * k), ← append_assoc, ← r.listed.front) b.front;
          };
        }

  pub list-end : 4 ≤ k → k ≤ 4 → Listed x 32 first at row₀ row end
  list-end l m = let e : k ≡ 4 = omega arith in rw e at r.listed
