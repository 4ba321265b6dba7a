-- Numbers copied from one list into another. In order: one more; what stands where; a whole row by two copies that may
-- overlap. No answer cites these: the check finds what `put_counts` needs alone.
use mathlib.Core.List.{List, ◌++◌}
use mathlib.Core.Logic.{inl, inr}
use mathlib.Core.Path.{◌≡◌, sym, ◌∙◌}
use native.Mathlib.Omega.{arith}
use Prim.Native.Nat.{ℕ, suc, ◌+◌, ◌-◌, ◌<◌, ◌≤◌}
use lib.ListN.{length, get_or, set, take, drop, length-drop, get_or-append}
use lib.Seq.{paste, paste-suc, length-paste, length_paste_head, get_or-append-add, get_or-take, get_or-drop, length-take-le}
use lib.Seq.{ext_get_or}
use Rattle.basics.proofs.Booleans.{less?}

-- ---- one more

pub copied_more : (part done : List ℕ) (at j : ℕ) → at + j < length part → at + j < length done → {now : List ℕ}
    → now ≡ paste part at (drop at done) j
    → set now (at + j) (get_or done (at + j) 0) ≡ paste part at (drop at done) (suc j)
copied_more part done at j h l e =
    let room : j < length (drop at done) = omega (arith, length-drop at done, l) in
    rw (e, ← get_or-drop at done j 0) (paste-suc part at (drop at done) j 0 h room)

-- ---- what stands where

module _ (d : List ℕ) (at : ℕ) (s : List ℕ) (n : ℕ) (h : at + n ≤ length d) (l : n ≤ length s) where
  paste-before : (i : ℕ) → i < at → get_or (paste d at s n) i 0 ≡ get_or d i 0
  paste-before i k =
      let front = length_paste_head d at s n (omega (arith, h)) l in
      let first = length-take-le at d (omega (arith, h)) in
      get_or-append (take at d ++ take n s) (drop (at + n) d) 0 i (omega (arith, front, k))
      ∙ get_or-append (take at d) (take n s) 0 i (omega (arith, first, k))
      ∙ get_or-take at d i 0 k

  paste-in : (i : ℕ) → i < n → get_or (paste d at s n) (at + i) 0 ≡ get_or s i 0
  paste-in i k =
      let front = length_paste_head d at s n (omega (arith, h)) l in
      let first = length-take-le at d (omega (arith, h)) in
      get_or-append (take at d ++ take n s) (drop (at + n) d) 0 (at + i) (omega (arith, front, k))
      ∙ (rw first at (get_or-append-add (take at d) (take n s) i 0))
      ∙ get_or-take n s i 0 k

-- ---- a whole row

-- m numbers from the start, and the last m
pub row-whole : (part done : List ℕ) (m : ℕ) → m ≤ length part → length part ≤ m + m → length part ≤ length done
    → paste (paste part 0 (drop 0 done) m) (length part - m) (drop (length part - m) done) m ≡ take (length part) done
row-whole part done m low high room = ext_get_or 0 _ _ (whole ∙ sym long) each
  where
    p : ℕ
    p = length part

    half : List ℕ
    half = paste part 0 done m

    half-long : length (paste part 0 done m) ≡ length part
    half-long = length-paste part 0 done m (omega (arith, low)) (omega (arith, low, room))

    rest : m ≤ length (drop (length part - m) done)
    rest = omega (arith, length-drop (length part - m) done, low, room)

    fits : length part - m + m ≤ length (paste part 0 done m)
    fits = omega (arith, half-long, low)

    whole : length (paste (paste part 0 done m) (length part - m) (drop (length part - m) done) m) ≡ length part
    whole = length-paste half (p - m) (drop (p - m) done) m fits rest ∙ half-long

    long : length (take (length part) done) ≡ length part
    long = length-take-le p done room

    each : (j : ℕ) → j < length (paste (paste part 0 done m) (length part - m) (drop (length part - m) done) m)
        → get_or (paste (paste part 0 done m) (length part - m) (drop (length part - m) done) m) j 0
        ≡ get_or (take (length part) done) j 0
    each j l =
        let few : j < p = omega (arith, l, whole) in
        elim (less? j (p - m)) [
          | inl k ↦
              let z : 0 + j ≡ j = omega arith in
              paste-before half (p - m) (drop (p - m) done) m fits rest j k
              ∙ (rw z at (paste-in part 0 done m (omega (arith, low)) (omega (arith, low, room)) j
              (omega (arith, k, high))))
              ∙ sym (get_or-take p done j 0 few)
          | inr k ↦
              let i = j - (p - m) in
              let e : p - m + i ≡ j = omega (arith, k) in
              rw e at (paste-in half (p - m) (drop (p - m) done) m fits rest i (omega (arith, k, few, low))
              ∙ get_or-drop (p - m) done i 0)
              ∙ sym (get_or-take p done j 0 few)
        ]
