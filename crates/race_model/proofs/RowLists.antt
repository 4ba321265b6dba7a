-- The race list, row by row. In order: a row of races; the list, with a row more.
use mathlib.Core.Bool.{Bool, true, false}
use mathlib.Core.List.{List, [], ◌∷◌, ◌++◌, map, map-append, append-nil, append_assoc}
use mathlib.Core.Logic.{inl, inr}
use mathlib.Core.Path.{◌≡◌, refl, sym, ap}
use native.Mathlib.Omega.{arith}
use Prim.Native.Nat.{ℕ, zero, suc, ◌+◌, ◌<◌, ◌≤◌}
use lib.ListN.{length, length-append, length-map}
use lib.Seq.{length-take-le}
use Rattle.basics.proofs.Booleans.{equal?, less?}
use Rattle.trace.specs.Trace.{Trace, size}
use Rattle.race_model.specs.declared.Race.{Race}
use Rattle.race_model.specs.RaceList.{is_race, pair, races_of, races_below, race_list, race_count}
use Rattle.words.specs.Passing.{passing}
use Rattle.words.proofs.Passing.{passing-more, passing-same, passing-none}
use Rattle.race_model.specs.RaceRows.{race_row, RowHolds}
use Rattle.race_model.proofs.RaceTests.{no-race-ahead}

-- ---- a row of races

-- as many as are listed
pub row_count : {numbers : List ℕ} {count : ℕ} {row : List ℕ} → RowHolds numbers count row → length numbers ≡ count
row_count {count = count} {row} r =
    rw (← r.front) (length-take-le count row (omega (arith, r.few, r.long)))

module _ (t : Trace) where
  row-races : (before : List Race) (a b : ℕ)
      → races_of t before a b ≡ before ++ map (pair a) (passing (is_race t a) b)
  unfolding races_of passing
  row-races before a zero = sym (append-nil before)
  row-races before a (suc b) = go (is_race t a b) refl (row-races before a b)
    where
      go : (r : Bool) → is_race t a b ≡ r → races_of t before a b ≡ before ++ map (pair a) (passing (is_race t a) b)
          → races_of t before a (suc b) ≡ before ++ map (pair a) (passing (is_race t a) (suc b))
      go true e i =
          rw (passing-more (is_race t a) b e, e, map-append, i)
          (append_assoc before (map (pair a) (passing (is_race t a) b)) (pair a b ∷ []))
      go false e i = rw (passing-same (is_race t a) b e, e, i) (append-nil _)

  -- none where none of those above a races with it
  pub row-none : (a : ℕ) → ((b : ℕ) → a < b → b < size t → is_race t a b ≡ false) → race_row t a ≡ []
  row-none a h = passing-none (is_race t a) (size t) (λ b l. elim (less? a b) [
    | inl i ↦ h b i l
    | inr i ↦ no-race-ahead t a b i
  ])

  -- ---- the list, with a row more

  pub below-start : races_below t 0 ≡ []
  unfolding races_below
  below-start = refl

  pub below_next : (a : ℕ) → races_below t (suc a) ≡ races_below t a ++ map (pair a) (race_row t a)
  unfolding races_below
  below_next a = row-races (races_below t a) a (size t)

  pub below_all : races_below t (size t) ≡ race_list t
  unfolding race_list
  below_all = refl

  pub below-count : (a : ℕ) → length (races_below t (suc a)) ≡ length (races_below t a) + length (race_row t a)
  below-count a =
      rw (below_next a, length-append) (ap (λ (k : ℕ). length (races_below t a) + k) (length-map (race_row t a) (pair a)))

  -- they grow with the rows, and are no more than all
  pub below-grows : (a c : ℕ) → a ≤ c → length (races_below t a) ≤ length (races_below t c)
  below-grows a zero l = let e : a ≡ 0 = omega arith in rw e (omega arith)
  below-grows a (suc c) l = elim (equal? a (suc c)) [
    | inl e ↦ rw e (omega arith)
    | inr d ↦ omega (arith, below-count c, below-grows a c (omega (arith, d)))
  ]

  pub below-few : (a : ℕ) → a ≤ size t → length (races_below t a) ≤ race_count t
  below-few a l = rw (← below_all) (below-grows a (size t) l)

  -- a row more has a place where all of the rows have one
  pub row_room : {a at rows more : ℕ} {row : List ℕ} → at ≡ length (races_below t a) → a < rows
      → RowHolds (race_row t a) more row → at + more ≤ length (races_below t rows)
  row_room {a} {rows = rows} e l r =
      omega (arith, e, below-count a, row_count r, below-grows (suc a) rows (omega arith))
