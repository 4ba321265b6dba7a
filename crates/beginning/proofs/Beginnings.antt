-- What the call returns. In order: which list and how long, as the code comes to it; the part, against document 01;
-- the call's promise.
use mathlib.Core.List.{List, []}
use mathlib.Core.Logic.{◌⊎◌, inl, inr, ◌↔◌}
use mathlib.Core.Path.{◌≡◌, refl}
use native.Mathlib.Nat.{sub-zero, zero-mul, zero-add}
use native.Mathlib.Omega.{arith}
use Prim.Native.Nat.{ℕ, ◌+◌, ◌*◌, ◌-◌, ◌<◌, ◌≤◌}
use lib.ListN.{length, take}
use lib.Seq.{length-take-le}
use borrow.Author.Tests.{lt-ltb, le-ltb}
use Rattle.basics.proofs.Booleans.{less?}
use Rattle.beginning.specs.declared.Prefix.{Prefix}
use Rattle.beginning.specs.declared.Prefix.TheVariants.{OfFirst, OfSecond}
use Rattle.beginning.specs.Returned.{NoBeginning, Part, Returned, by_first, by_second, by_neither}
use Rattle.beginning.specs.Computed.{beginning_length, prefix_of, part_of, beginning_of, as_prefix}
use Rattle.beginning.specs.Computed.{numbers_of, start_of, BeginningCall}
use Rattle.beginning.proofs.Lengths.{length-fits, beginning-length, beginning-taken, beginning-positive}
use Rattle.beginning.proofs.Lengths.{length-beginning, no-beginning}

-- the prefix lies in its list
abbrev Fits : List ℕ → List ℕ → Prefix → Type 0
Fits first second (OfFirst n) = n ≤ length first
Fits first second (OfSecond n) = n ≤ length second

module _ (first second : List ℕ) (chosen other : ℕ) where
  -- ---- which list and how long: m and n are how long the beginnings of the lists are

  module _ {m : ℕ} (i : m ≡ beginning_length first chosen other) where
    pub prefix-first : 0 < m → OfFirst m ≡ prefix_of first second chosen other
    unfolding prefix_of
    prefix-first l = rw (← i, lt-ltb 0 m l)

    module _ (l : m ≤ 0) {n : ℕ} (j : n ≡ beginning_length second chosen other) where
      pub prefix-second : 0 < n → OfSecond n ≡ prefix_of first second chosen other
      unfolding prefix_of
      prefix-second h = rw (← i, ← j, le-ltb 0 m l, lt-ltb 0 n h)

      pub prefix-neither : n ≤ 0 → OfFirst 0 ≡ prefix_of first second chosen other
      unfolding prefix_of
      prefix-neither h = rw (← i, ← j, le-ltb 0 m l, le-ltb 0 n h)

  -- what holds of each of the three holds of it
  prefix_cases : {m n : ℕ} → m ≡ beginning_length first chosen other → n ≡ beginning_length second chosen other
      → (P : Prefix → Type 0) → (0 < m → P (OfFirst m)) → (m ≡ 0 → 0 < n → P (OfSecond n))
      → (m ≡ 0 → n ≡ 0 → P (OfFirst 0)) → P (prefix_of first second chosen other)
  prefix_cases {m} {n} i j P f g h = go (less? 0 m) (less? 0 n)
    where
      go : (0 < m) ⊎ (m ≤ 0) → (0 < n) ⊎ (n ≤ 0) → P (prefix_of first second chosen other)
      go (inl l) k = rw (← prefix-first i l) (f l)
      go (inr l) (inl k) = rw (← prefix-second i l j k) (g (omega arith) k)
      go (inr l) (inr k) = rw (← prefix-neither i l j k) (h (omega arith) (omega arith))

  -- its list is long enough
  pub prefix-fits : {x : Prefix} → prefix_of first second chosen other ≡ x → Fits first second x
  prefix-fits e = rw e at fits
    where
      fits : Fits first second (prefix_of first second chosen other)
      fits =
          prefix_cases
          refl
          refl
          (Fits first second)
          (λ l. length-fits first chosen other)
          (λ i l. length-fits second chosen other)
          (λ i j. omega arith)

  -- ---- the part, against document 01

  computed-returned : Returned first second chosen other (beginning_of first second chosen other)
  computed-returned =
      prefix_cases
      refl
      refl
      (λ (x : Prefix). Returned first second chosen other (part_of first second x))
      (λ l. by_first (length-beginning l))
      (λ i l. by_second (no-beginning.0 i) (length-beginning l))
      (λ i j. by_neither (no-beginning.0 i) (no-beginning.0 j))

  returned-computed : {x : Part} → Returned first second chosen other x → beginning_of first second chosen other ≡ x
  returned-computed (by_first b) =
      rw (← prefix-first refl (beginning-positive b), beginning-length b, beginning-taken b)
  returned-computed (by_second none b) =
      let z = no-beginning.1 none in
      rw (← prefix-second refl (omega arith) refl (beginning-positive b), beginning-length b, beginning-taken b)
  returned-computed (by_neither none none') =
      let z = no-beginning.1 none in
      let z' = no-beginning.1 none' in
      rw (← prefix-neither refl (omega arith) refl (omega arith))

  -- the part that is computed is the part that document 01 says, and the only one
  pub beginning-returned : (x : Part)
      → (beginning_of first second chosen other ≡ x) ↔ Returned first second chosen other x
  beginning-returned x = (λ e. rw e at computed-returned, λ r. returned-computed r)

  -- which list it is of, and how long it is
  pub prefix-returned : {x : Part} → Returned first second chosen other x
      → prefix_of first second chosen other ≡ as_prefix x
  prefix-returned r = rw (← returned-computed r) (go (prefix_of first second chosen other) (prefix-fits refl))
    where
      go : (x : Prefix) → Fits first second x → x ≡ as_prefix (part_of first second x)
      go (OfFirst n) l = rw (length-take-le n first l)
      go (OfSecond n) l = rw (length-take-le n second l)

  -- ---- the call

  module _ {at_first at_second : ℕ × ℕ} where
    -- the part of the list from 0 to n, where a number takes two bytes
    pub call-first : {n : ℕ} → prefix_of first second chosen other ≡ OfFirst n
        → BeginningCall first second chosen other at_first at_second (take (n - 0) first)
        (at_first.0, 0 * 2 + at_first.1)
    call-first e = record { holds = rw (e, sub-zero); starts = rw (e, zero-mul, zero-add) }

    pub call-second : {n : ℕ} → prefix_of first second chosen other ≡ OfSecond n
        → BeginningCall first second chosen other at_first at_second (take (n - 0) second)
        (at_second.0, 0 * 2 + at_second.1)
    call-second e = record { holds = rw (e, sub-zero); starts = rw (e, zero-mul, zero-add) }

    -- what the call returns is the part that document 01 says, where that starts
    pub call-returned : {numbers : List ℕ} {start : ℕ × ℕ} {x : Part} → Returned first second chosen other x
        → BeginningCall first second chosen other at_first at_second numbers start
        ↔ ((numbers ≡ numbers_of x) × (start ≡ start_of at_first at_second x))
    call-returned r = (
      λ c. (rw (returned-computed r) at c.holds, rw (returned-computed r) at c.starts),
      λ t. record { holds = rw (returned-computed r) t.0; starts = rw (returned-computed r) t.1 },
    )

    -- where neither list has a beginning: nothing, at the start of the first list and at no other place
    pub call-neither : {numbers : List ℕ} {start : ℕ × ℕ} → NoBeginning first chosen other
        → NoBeginning second chosen other → BeginningCall first second chosen other at_first at_second numbers start
        → (numbers ≡ []) × (start ≡ at_first)
    call-neither n k c = (call-returned (by_neither n k)).0 c
