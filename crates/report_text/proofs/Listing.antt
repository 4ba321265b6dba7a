-- A whole report, placed from the start on: the counts' line, the races' lines behind it, and the line of their number.
use mathlib.Core.List.{List, ◌++◌}
use native.Mathlib.Omega.{arith}
use Prim.Native.Nat.{ℕ, ◌+◌, ◌*◌, ◌<◌, ◌≤◌}
use lib.ListN.{length, length-append}
use Rattle.text.specs.Placed.{Placed}
use Rattle.text.proofs.Placing.{placed-length, placed-room, placed-then}
use Rattle.report_text.specs.Premises.{RaceRoom, ListingRoom}
use Rattle.report_text.specs.ReportText.{counts_line, races_line}
use Rattle.report_text.proofs.Lines.{counts-line-length, races-line-length}

module _ {old lower higher : List ℕ} {count : ℕ} (r : ListingRoom old lower higher count) (n p : ℕ)
    (fits : n < 4294967296) (few : p < 256) where
  short : length (counts_line n p) ≤ 27
  short = counts-line-length n p fits few

  pub counts-room : 0 + length (counts_line n p) ≤ length old
  counts-room = omega (arith, short, r.room)

  -- the counts are placed
  module _ {first : ℕ} {then : List ℕ} (c : Placed old 0 (counts_line n p) first then) where
    pub races-room : RaceRoom then first lower higher count
    races-room =
        let size = placed-length c counts-room in
        record {
          lower_holds = r.lower_holds;
          higher_holds = r.higher_holds;
          room = omega (arith, short, c.ends, size, r.room);
        }

    -- and the races' lines
    module _ {lines : List ℕ} {last : ℕ} {behind : List ℕ} (d : Placed then first lines last behind)
        (s : last ≤ first + 17 * count) (number : count < 4294967296) where
      all_room : 0 + length (counts_line n p ++ (lines ++ races_line count)) ≤ length old
      all_room =
          let end = races-line-length count number in
          simp length-append (omega (arith, short, end, c.ends, d.ends, s, r.room))

      rest-room : first + length (lines ++ races_line count) ≤ length then
      rest-room = placed-room c (lines ++ races_line count) all_room

      pub count_room : last + length (races_line count) ≤ length behind
      count_room = placed-room d (races_line count) rest-room

      pub all_placed : {end : ℕ} {now : List ℕ} → Placed behind last (races_line count) end now
          → Placed old 0 (counts_line n p ++ (lines ++ races_line count)) end now
      all_placed e = placed-then c (lines ++ races_line count) all_room (placed-then d (races_line count) rest-room e)
