-- How long a list's beginning is. In order: by the first appearances of the two numbers; by a search; the search by
-- eights; how long it is at most; against what document 01 calls the beginning.
use mathlib.Core.Bool.{Bool, true, not, ◌&&◌}
use mathlib.Core.List.{List, [], ◌∷◌, ◌++◌}
use mathlib.Core.Logic.{◌⊎◌, inl, inr, ◌↔◌, ◌≢◌}
use mathlib.Core.Path.{◌≡◌, refl, sym, ◌∙◌, ap}
use native.Mathlib.Nat.{add_assoc, mod-eq_of_lt}
use native.Mathlib.Omega.{arith}
use Prim.Native.Nat.{ℕ, ◌+◌, ◌%◌, ◌<◌, ◌≤◌}
use lib.Dec.{eqb}
use lib.ListN.{length, take, get_or, length-append}
use lib.Seq.{take_at, append_snoc}
use borrow.Author.Tests.{lt-ltb, le-ltb, eqb-false, not-true}
use Rattle.basics.specs.Membership.{◌∉◌}
use Rattle.basics.proofs.Booleans.{less?, both_true}
use Rattle.beginning.specs.Returned.{BeginningOf, NoBeginning}
use Rattle.beginning.specs.Computed.{first_index, beginning_length}
use Rattle.beginning.specs.Searched.{Searched}
use Rattle.beginning.proofs.Indices.{index-appears, CutAtFirst, cut-at-first, cut-length}
use Rattle.beginning.proofs.Indices.{index-cut, index-before, index-behind}
use Rattle.beginning.proofs.Indices.{index-later, index-here, index-none}

-- ---- by the first appearances: `chosen` is first at c, `other` at o

module _ (list : List ℕ) (chosen other : ℕ) where
  module _ {c o : ℕ} (i : c ≡ first_index list chosen) (j : o ≡ first_index list other) where
    length_found : c < o → o < length list → c + 1 ≡ beginning_length list chosen other
    unfolding beginning_length
    length_found h l = rw (← i, ← j, lt-ltb c o h, lt-ltb o (length list) l)

    length_without : c < o → length list ≤ o → 0 ≡ beginning_length list chosen other
    unfolding beginning_length
    length_without h l = rw (← i, ← j, lt-ltb c o h, le-ltb o (length list) l)

    length-not-after : o ≤ c → 0 ≡ beginning_length list chosen other
    unfolding beginning_length
    length-not-after h = rw (← i, ← j, le-ltb c o h)

-- ---- the search: neither number appears in the first i numbers

module _ {list : List ℕ} {chosen other i : ℕ} (s : Searched list chosen other i) where
  pub searched-all : length list ≤ i → 0 ≡ beginning_length list chosen other
  searched-all l =
      let c = index-none list chosen i s.x_later l in
      let o = index-none list other i s.y_later l in
      length-not-after list chosen other c o (omega arith)

  module _ (l : i < length list) where
    pub searched-other : get_or list i 0 ≡ other → 0 ≡ beginning_length list chosen other
    searched-other e =
        length-not-after list chosen other refl (index-here list other i s.y_later l e) s.x_later

    module _ (n : get_or list i 0 ≢ other) where
      pub searched-past : i + 1 ≤ first_index list other
      searched-past = index-later list other i s.y_later l n

      pub searched-more : get_or list i 0 ≢ chosen → Searched list chosen other (i + 1)
      searched-more m =
          record { x_later = index-later list chosen i s.x_later l m; y_later = searched-past }

      -- `chosen` is at i
      module _ (e : get_or list i 0 ≡ chosen) {o : ℕ} (j : o ≡ first_index list other) where
        at-chosen : i ≡ first_index list chosen
        at-chosen = index-here list chosen i s.x_later l e

        pub searched-found : o < length list → i + 1 ≡ beginning_length list chosen other
        searched-found h = length_found list chosen other at-chosen j (omega (arith, searched-past)) h

        pub searched-without : length list ≤ o → 0 ≡ beginning_length list chosen other
        searched-without h = length_without list chosen other at-chosen j (omega (arith, searched-past)) h

-- ---- the search by eights: `free` says of the first i of them that none is x or y

-- a 16-bit number is compared with the low 16 bits of another
low-differs : (z x : ℕ) → z < 65536 → not (eqb z (x % 65536)) ≡ true → z ≢ x
low-differs z x l t e = eqb-false z (x % 65536) (not-true _ t) (e ∙ sym (mod-eq_of_lt small))
  where
    small : x < 65536
    small = omega (arith, e)

module _ {list : List ℕ} {x y : ℕ} (at i : ℕ) {free : Bool} (s : free ≡ true → Searched list x y (at + i)) where
  pub eight-more : at + i < length list → get_or list (at + i) 0 < 65536 → {differs free' : Bool}
      → differs ≡ not (eqb (get_or list (at + i) 0) (x % 65536)) && not (eqb (get_or list (at + i) 0) (y % 65536))
      → free' ≡ free && differs → free' ≡ true → Searched list x y (at + (i + 1))
  eight-more l small {differs} {free'} e e' t =
      let z = get_or list (at + i) 0 in
      let p = both_true free differs (sym e' ∙ t) in
      let q = both_true (not (eqb z (x % 65536))) (not (eqb z (y % 65536))) (sym e ∙ p.1) in
      rw (← add_assoc at i 1) (searched-more (s p.0) l (low-differs z y small q.1) (low-differs z x small q.0))

pub eight-all : {list : List ℕ} {x y : ℕ} (at i : ℕ) → Searched list x y (at + i) → i ≤ 8 → 8 ≤ i
    → Searched list x y (at + 8)
eight-all at i s l h = rw (go (omega arith)) at s
  where
    go : i ≡ 8 → at + i ≡ at + 8
    go e = rw e

-- ---- how long it is at most

-- the list has a beginning
record Found (list : List ℕ) (chosen other : ℕ) : Type 0 where
  pub sooner : first_index list chosen < first_index list other
  pub appears : first_index list other < length list
  pub long : first_index list chosen + 1 ≡ beginning_length list chosen other

module _ (list : List ℕ) (chosen other : ℕ) where
  found : 0 < beginning_length list chosen other → Found list chosen other
  found l = go (less? c o) (less? o (length list))
    where
      c : ℕ
      c = first_index list chosen

      o : ℕ
      o = first_index list other

      go : (c < o) ⊎ (o ≤ c) → (o < length list) ⊎ (length list ≤ o) → Found list chosen other
      go (inl h) (inl k) = record { sooner = h; appears = k; long = length_found list chosen other refl refl h k }
      go (inl h) (inr k) = absurd (omega (arith, length_without list chosen other refl refl h k))
      go (inr h) k = absurd (omega (arith, length-not-after list chosen other refl refl h))

  pub length-fits : beginning_length list chosen other ≤ length list
  length-fits = go (less? 0 (beginning_length list chosen other))
    where
      go : (0 < beginning_length list chosen other) ⊎ (beginning_length list chosen other ≤ 0)
          → beginning_length list chosen other ≤ length list
      go (inl h) = let f = found h in omega (arith, f.sooner, f.appears, f.long)
      go (inr h) = omega arith

-- ---- against document 01

module _ {list : List ℕ} {chosen other : ℕ} where
  module _ {part : List ℕ} (b : BeginningOf list chosen other part) where
    abbrev cut : CutAtFirst chosen list
    cut = record { before = b.before; rest = b.rest; split = b.split; fresh = b.first_appearance }

    part_length : length part ≡ length b.before + 1
    part_length = ap length b.ends ∙ length-append b.before (chosen ∷ [])

    pub beginning-length : beginning_length list chosen other ≡ length part
    beginning-length =
        let at_other = index-behind cut b.not_before b.differ in
        let inside = (index-appears other b.rest).1 b.after in
        let sooner : first_index list chosen < first_index list other = omega (arith, index-cut cut, at_other) in
        let appears : first_index list other < length list = omega (arith, at_other, inside, cut-length cut) in
        let long = length_found list chosen other refl refl sooner appears in
        omega (arith, long, index-cut cut, part_length)

    pub beginning-positive : 0 < beginning_length list chosen other
    beginning-positive = omega (arith, beginning-length, part_length)

    pub beginning-taken : take (length part) list ≡ part
    beginning-taken = ap (take (length part)) whole ∙ take_at part b.rest (length part) refl
      where
        whole : list ≡ part ++ b.rest
        whole =
            b.split
            ∙ sym (ap (λ (l : List ℕ). l ++ b.rest) b.ends ∙ append_snoc b.before chosen b.rest)

  cut-beginning : Found list chosen other → (k : CutAtFirst chosen list)
      → BeginningOf list chosen other (k.before ++ chosen ∷ [])
  cut-beginning f k =
      record {
        before = k.before;
        rest = k.rest;
        split = k.split;
        ends = refl;
        first_appearance = k.fresh;
        differ = differ;
        after = (index-appears other k.rest).0 after;
        not_before = not_before;
      }
    where
      differ : chosen ≢ other
      differ e = omega (arith, f.sooner, ap (first_index list) e)

      not_before : other ∉ k.before
      not_before m = omega (arith, f.sooner, index-cut k, index-before k m)

      after : first_index k.rest other < length k.rest
      after = omega (arith, f.appears, cut-length k, index-behind k not_before differ)

  pub length-beginning : 0 < beginning_length list chosen other
      → BeginningOf list chosen other (take (beginning_length list chosen other) list)
  length-beginning l = rw (beginning-length b, beginning-taken b) b
    where
      f : Found list chosen other
      f = found list chosen other l

      k : CutAtFirst chosen list
      k = cut-at-first ((index-appears chosen list).0 (omega (arith, f.sooner, f.appears)))

      b : BeginningOf list chosen other (k.before ++ chosen ∷ [])
      b = cut-beginning f k

  pub no-beginning : (beginning_length list chosen other ≡ 0) ↔ NoBeginning list chosen other
  no-beginning = (λ e part b. none e b, λ n. go n (less? 0 (beginning_length list chosen other)))
    where
      none : {part : List ℕ} → beginning_length list chosen other ≡ 0 → BeginningOf list chosen other part → ⊥
      none e b = omega (arith, e, beginning-positive b)

      go : NoBeginning list chosen other
          → (0 < beginning_length list chosen other) ⊎ (beginning_length list chosen other ≤ 0)
          → beginning_length list chosen other ≡ 0
      go n (inl h) = absurd (n _ (length-beginning h))
      go n (inr h) = omega arith
