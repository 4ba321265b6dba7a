-- What is in the lent list after the call. In order: after any call, its length; after a refusal; after success.
use mathlib.Core.List.{List}
use mathlib.Core.Path.{◌≡◌, refl}
use Prim.Native.Nat.{ℕ, ◌≤◌}
use lib.ListN.{length, get_or, take}
use lib.Seq.{take_at}
use Rattle.trace.specs.Reading.{refused}
use Rattle.trace.specs.Trace.{Trace}
use Rattle.lent.proofs.Writing.{written-length, written-past}
use Rattle.race_model.specs.declared.Race.{Race}
use Rattle.race_model.specs.RaceList.{race_list, race_count}
use Rattle.races.specs.Races.{races_reading, races_listed}
use Rattle.races.specs.Refusals.{AcceptedRaces}
use Rattle.races.proofs.Listed.{listed-none, listed-all, listed-fits}
use Rattle.race_list.specs.Listing.{list_after}

module _ (bytes table : List ℕ) (list : List Race) where
  pub list_length : length (list_after bytes table list) ≡ length list
  list_length =
      let races = races_listed bytes (length table) (length list) in
      written-length races list (listed-fits bytes (length table) (length list))

  pub list-untouched : {q k : ℕ} → races_reading bytes (length table) (length list) ≡ refused q k
      → list_after bytes table list ≡ list
  list-untouched e = rw (listed-none bytes (length table) (length list) e)

  module _ {t : Trace} (h : AcceptedRaces bytes (length table) (length list) t) where
    pub list_holds : take (race_count t) (list_after bytes table list) ≡ race_list t
    list_holds = rw (listed-all bytes (length table) (length list) h) (take_at (race_list t) _ (race_count t) refl)

    pub list-past : (d : Race) (i : ℕ) → race_count t ≤ i → get_or (list_after bytes table list) i d ≡ get_or list i d
    list-past d i l =
        rw (listed-all bytes (length table) (length list) h) (written-past (race_list t) list d i l)
