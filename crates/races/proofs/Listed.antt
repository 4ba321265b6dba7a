-- The races that a call lists, and what is in the two lists of numbers after it. In order: which races are listed;
-- after any call, the lengths; after a refusal; after success.
use mathlib.Core.List.{List, [], ◌∷◌, ◌++◌, map}
use mathlib.Core.Path.{◌≡◌, refl, ap}
use native.Mathlib.Omega.{arith}
use Prim.Native.Nat.{ℕ, ◌≤◌}
use lib.ListN.{length, get_or, take, length-map}
use Rattle.trace.specs.Reading.{Reading, refused, reads}
use Rattle.trace.specs.Trace.{Trace}
use Rattle.lent.proofs.Writing.{written-length, written-past}
use Rattle.race_model.specs.RaceList.{race_list, race_count}
use Rattle.race_model.specs.declared.Race.{Race}
use Rattle.races.specs.Races.{higher_after}
use Rattle.races.specs.Races.{races_reading, races_listed, lowers, highers, race_records, shorter, lower_after}
use Rattle.races.specs.Refusals.{AcceptedRaces}
use Rattle.races.proofs.Answers.{races_listed-by, shorter-fits}
use Rattle.races.proofs.Questions.{races-comes-out}

-- ---- which races a call lists

module _ (bytes : List ℕ) (numbers room : ℕ) where
  pub listed-none : {q k : ℕ} → races_reading bytes numbers room ≡ refused q k → races_listed bytes numbers room ≡ []
  listed-none e = races_listed-by bytes numbers room e

  pub listed-all : {t : Trace} → AcceptedRaces bytes numbers room t → races_listed bytes numbers room ≡ race_list t
  listed-all {t} h = races_listed-by bytes numbers room (((races-comes-out bytes numbers room).passes t).1 h)

  pub listed-fits : length (races_listed bytes numbers room) ≤ room
  listed-fits = go (races_reading bytes numbers room) refl
    where
      go : (r : Reading) → races_reading bytes numbers room ≡ r → length (races_listed bytes numbers room) ≤ room
      go (refused q k) e = rw (listed-none e) (omega arith)
      go (reads t) e =
          let h = ((races-comes-out bytes numbers room).passes t).0 e in
          rw (listed-all h) h.list_holds

-- ---- what is in the two lists of numbers

-- lists that start with the lower and the higher operations of some races hold these
records-front : (l : List Race) (xs ys : List ℕ) → take (length l) (race_records (lowers l ++ xs) (highers l ++ ys)) ≡ l
unfolding race_records
records-front [] xs ys = refl
records-front (r ∷ l) xs ys = ap (λ (s : List Race). r ∷ s) (records-front l xs ys)

module _ (bytes table lower higher : List ℕ) where
  abbrev room : ℕ
  room = shorter (length lower) (length higher)

  abbrev listed : List Race
  listed = races_listed bytes (length table) room

  -- of either list, where `number` is the lower or the higher operation of a race
  fits : (number : Race → ℕ) {n : ℕ} → room ≤ n → length (map number listed) ≤ n
  fits number l = rw (length-map listed number) (omega (arith, listed-fits bytes (length table) room, l))

  -- after any call
  pub lists_length : (length (lower_after bytes table lower higher) ≡ length lower)
      × (length (higher_after bytes table lower higher) ≡ length higher)
  unfolding lower_after higher_after
  lists_length =
      let short = shorter-fits (length lower) (length higher) in (
        written-length (lowers listed) lower (fits (λ r. r.lower) short.0),
        written-length (highers listed) higher (fits (λ r. r.higher) short.1),
      )

  -- after a refusal
  pub lists-untouched : {q k : ℕ} → races_reading bytes (length table) room ≡ refused q k
      → (lower_after bytes table lower higher ≡ lower) × (higher_after bytes table lower higher ≡ higher)
  unfolding lower_after higher_after
  lists-untouched e = let none = listed-none bytes (length table) room e in (rw none, rw none)

  -- after success
  module _ {t : Trace} (h : AcceptedRaces bytes (length table) room t) where
    pub lists-hold :
        take (race_count t) (race_records (lower_after bytes table lower higher) (higher_after bytes table lower higher))
        ≡ race_list t
    unfolding lower_after higher_after
    lists-hold = rw (listed-all bytes (length table) room h) (records-front (race_list t) _ _)

    pub lists-past : (i : ℕ) → race_count t ≤ i
        → (get_or (lower_after bytes table lower higher) i 0 ≡ get_or lower i 0)
        × (get_or (higher_after bytes table lower higher) i 0 ≡ get_or higher i 0)
    unfolding lower_after higher_after
    lists-past i l =
        rw (listed-all bytes (length table) room h) (
          written-past (lowers (race_list t)) lower 0 i (rw (length-map (race_list t) (λ (r : Race). r.lower)) l),
          written-past (highers (race_list t)) higher 0 i (rw (length-map (race_list t) (λ (r : Race). r.higher)) l),
        )
