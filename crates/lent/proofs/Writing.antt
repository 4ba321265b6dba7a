-- Writing lent memory from its start on. In order: what is in the memory afterwards; its steps; its end.
use mathlib.Core.List.{List, [], ◌∷◌, ◌++◌, append_assoc, append-nil}
use mathlib.Core.Path.{◌≡◌, refl, ◌∙◌}
use native.Mathlib.Numerals.{add-one}
use native.Mathlib.Omega.{arith}
use Prim.Native.Nat.{ℕ, suc, ◌+◌, ◌-◌, ◌<◌, ◌≤◌}
use lib.ListN.{length, get_or, set, take, drop, length-append, length-drop}
use lib.Seq.{take_at, drop_at, drop-drop, drop-length, set_split, take-suc, get_or-append-add, get_or-drop}
use Rattle.lent.specs.Written.{written_over}

module _ {A : Type 0} where
  -- ---- what is in the memory afterwards

  module _ (new old : List A) where
    pub written-length : length new ≤ length old → length (written_over new old) ≡ length old
    written-length l = simp (length-append, length-drop) (omega (arith, l))

    pub written-past : (d : A) (i : ℕ) → length new ≤ i → get_or (written_over new old) i d ≡ get_or old i d
    written-past d i l =
        let j = i - length new in
        let e : length new + j ≡ i = omega arith in
        rw e at (get_or-append-add new (drop (length new) old) j d ∙ get_or-drop (length new) old j d)

  -- ---- steps

  -- the `at` elements of `new` are written to the memory `old`, which holds `now`
  pub record Written (at : ℕ) (new old now : List A) : Type 0 where
    pub place : length new ≡ at
    pub fits : at ≤ length old
    pub size : length now ≡ length old
    pub whole : now ≡ written_over new old

  pub written-by : {at : ℕ} {new old now : List A} → length new ≡ at → at ≤ length old → now ≡ written_over new old
      → Written at new old now
  written-by {at} {new} {old} e l i =
      record { place = e; fits = l; size = rw i (written-length new old (omega (arith, e))); whole = i }

  pub written_none : (old : List A) → Written 0 [] old old
  written_none old = written-by refl (omega arith) refl

  module _ {at : ℕ} {new old now : List A} (w : Written at new old now) where
    -- the m elements behind what is written are lent on, and come back as `part`
    pub written-part : {m : ℕ} (part : List A) → length part ≡ m → at + m ≤ length old
        → Written (at + m) (new ++ part) old (take at now ++ (part ++ drop m (drop at now)))
    written-part {m} part e l = written-by (simp length-append (omega (arith, w.place, e))) l whole
      where
        rest : List A
        rest = drop (length new) old

        whole : take at now ++ (part ++ drop m (drop at now)) ≡ written_over (new ++ part) old
        whole = rw (
          w.whole,
          take_at new rest at w.place,
          drop_at new rest at w.place,
          drop-drop,
          append_assoc,
          length-append,
          w.place,
          e,
        )

    -- one element is stored behind what is written
    pub written_one : at < length now → (x : A) → Written (at + 1) (new ++ x ∷ []) old (set now at x)
    written_one l x =
        let behind : drop 1 (drop at now) ≡ drop (suc at) now = drop-drop 1 at now ∙ rw add-one in
        let same : set now at x ≡ take at now ++ (x ∷ drop 1 (drop at now)) = set_split now at x l ∙ rw behind in
        rw same (written-part (x ∷ []) refl (omega (arith, w.size)))

  -- where the elements of a list are stored one by one
  pub written-copy : {at : ℕ} (from : List A) {old now : List A} → Written at (take at from) old now → (d : A)
      → at < length from → at < length now → Written (at + 1) (take (at + 1) from) old (set now at (get_or from at d))
  written-copy {at} from w d l i =
      let more : take (at + 1) from ≡ take at from ++ get_or from at d ∷ [] = rw add-one (take-suc from at d l) in
      rw more (written_one w i (get_or from at d))

  -- ---- the end: the memory is full

  pub written_all : {at : ℕ} {new old now : List A} → Written at new old now → length now ≤ at → now ≡ new
  written_all {new = new} {old = old} w l =
      let full : length new ≡ length old = omega (arith, w.place, w.fits, w.size) in
      w.whole ∙ rw (full, drop-length old) (append-nil new)
