-- The rows of one worker's operations, for which the walk is kept. In order: the walk to its end; the stretch up to a
-- step that frees somebody, and its rows; behind it; the end. No answer cites `filling-to`: it is for who goes by
-- `KeptTo`.
use mathlib.Core.List.{List, ◌++◌}
use mathlib.Core.Path.{◌≡◌, refl, sym, ap, ◌∙◌}
use native.Mathlib.Nat.{suc-mul, mul-le-mul_right}
use native.Mathlib.Omega.{arith}
use Prim.Native.Nat.{ℕ, ◌+◌, ◌*◌, ◌<◌, ◌≤◌}
use lib.ListN.{length, get_or, set}
use lib.Seq.{set-get_or}
use Rattle.basics.specs.Membership.{up_to}
use Rattle.runs.specs.Workers.{count}
use Rattle.trace.specs.Premises.{HoldsTrace, Fits}
use Rattle.trace.specs.Reading.{trace_of}
use Rattle.trace.specs.Trace.{Trace, size, worker_of}
use Rattle.trace.proofs.Answers.{few-numbers}
use Rattle.trace.proofs.Fitting.{trace-fits}
use Rattle.index.specs.Indexed.{Places}
use Rattle.index.specs.Steps.{operation_at, Follows, Handed}
use Rattle.index.proofs.Lookups.{holds-places, part-start, part_count, place-operation}
use Rattle.index.proofs.Operations.{at_some, at-rth}
use Rattle.walk.specs.Going.{Going, Sized, Walked}
use Rattle.courses.specs.Courses.{Begun}
use Rattle.accept.specs.Acceptance.{AcceptedTrace}
use Rattle.accept.proofs.Questions.{accepted-run}
use Rattle.table_rows.specs.Filling.{RoomAt, RoomAlong, Fillable, RowsTo, RowsAlong, FillsPart}
use Rattle.table_rows.specs.Passing.{Own, OwnPassed, Passes}
use Rattle.table_rows.proofs.Own.{own-done}

-- the rows of worker q's operations with fewer than i earlier ones are written, and the walk is kept for that with i;
-- entry `own` of the worker's list is next
pub record KeptAt (t : Trace) (starts list ends lasts : List ℕ) (q i own : ℕ) (nexts counts events waiting : List ℕ)
    (ready : ℕ) (before now : List ℕ) : Type 0 where
  pub sized : Sized ends nexts
  pub upto : i ≤ get_or lasts q 0
  pub own-list : Follows t (size t) list q own (get_or ends q 0) (get_or lasts q 0) i
  pub going : operation_at t q i < size t
      → (r : List ℕ) × Going t (operation_at t q i) q r list ends lasts nexts counts events waiting ready
  pub same_length : length now ≡ length before
  pub rows : (old : List ℕ) → RowsTo t starts (get_or starts q 0) old before
      → RowsTo t starts (get_or starts q 0 + i) old now

-- the same while the worker has an operation left; at its end the rows alone count
pub record KeptTo (t : Trace) (starts list ends lasts : List ℕ) (q i own : ℕ) (nexts counts events waiting : List ℕ)
    (ready : ℕ) (before now : List ℕ) : Type 0 where
  pub sized : Sized ends nexts
  pub upto : i ≤ get_or lasts q 0
  pub kept : i < get_or lasts q 0
      → KeptAt t starts list ends lasts q i own nexts counts events waiting ready before now
  pub same_length : length now ≡ length before
  pub rows : (old : List ℕ) → RowsTo t starts (get_or starts q 0) old before
      → RowsTo t starts (get_or starts q 0 + i) old now

pub kept-to : {t : Trace} {starts list ends lasts : List ℕ} {q i own : ℕ} {nexts counts events waiting : List ℕ}
    {ready : ℕ} {before now : List ℕ}
    → KeptAt t starts list ends lasts q i own nexts counts events waiting ready before now
    → KeptTo t starts list ends lasts q i own nexts counts events waiting ready before now
kept-to k = record { sized = k.sized; upto = k.upto; kept = λ l. k; same_length = k.same_length; rows = k.rows }

-- the same, and at the worker's end its rows are those of its part: what the loop goes by
pub record KeptFilling (t : Trace) (starts list ends lasts : List ℕ) (q i own : ℕ)
    (nexts counts events waiting : List ℕ) (ready : ℕ) (before now : List ℕ) : Type 0 where
  pub sized : Sized ends nexts
  pub upto : i ≤ get_or lasts q 0
  pub kept : i < get_or lasts q 0
      → KeptAt t starts list ends lasts q i own nexts counts events waiting ready before now
  pub filled : get_or lasts q 0 ≤ i → FillsPart t starts q before now
  pub same_length : length now ≡ length before
  pub rows : (old : List ℕ) → RowsTo t starts (get_or starts q 0) old before
      → RowsTo t starts (get_or starts q 0 + i) old now

pub filling-to : {t : Trace} {starts list ends lasts : List ℕ} {q i own : ℕ} {nexts counts events waiting : List ℕ}
    {ready : ℕ} {before now : List ℕ}
    → KeptFilling t starts list ends lasts q i own nexts counts events waiting ready before now
    → KeptTo t starts list ends lasts q i own nexts counts events waiting ready before now
filling-to k = record { sized = k.sized; upto = k.upto; kept = k.kept; same_length = k.same_length; rows = k.rows }

-- an accepted file with its index, and a table that holds n × p numbers
pub record Known (bytes : List ℕ) (p n : ℕ) (order starts list ends table : List ℕ) : Type 0 where
  pub accepted : AcceptedTrace bytes (trace_of bytes)
  pub holds : HoldsTrace bytes p n
  pub handed : Handed (trace_of bytes) order starts list ends
  pub room : n * p ≤ length table

pub known : {bytes : List ℕ} {p n : ℕ} {order starts list ends table : List ℕ} → HoldsTrace bytes p n
    → Handed (trace_of bytes) order starts list ends → Fillable bytes p n table
    → Known bytes p n order starts list ends table
known h i x = record { accepted = x.accepted; holds = h; handed = i; room = x.room }

module _ {bytes : List ℕ} {p n : ℕ} {order starts list ends before : List ℕ}
    (x : Known bytes p n order starts list ends before) {q : ℕ} (hq : q < p) {firsts lasts : List ℕ}
    (begun : Begun starts firsts lasts 16) where
  abbrev t : Trace
  t = trace_of bytes

  fits : Fits t
  fits = trace-fits x.holds

  places : Places t n order starts
  places = holds-places x.holds x.handed.indexed

  low : q < 16
  low = omega (arith, hq, x.holds.most)

  -- the worker's list ends inside the array
  pub list-few : (q < 16) × (get_or ends q 0 ≤ 1024)
  list-few = (low, x.handed.listed.few q low)

  -- how many operations the worker has
  last-place : get_or starts q 0 + get_or lasts q 0 ≡ get_or starts (q + 1) 0
  last-place = omega (arith, (begun.each q low).1, part_count places q low)

  last-count : get_or lasts q 0 ≡ count (worker_of t) q (up_to (size t))
  last-count = rw places.count (omega (arith, last-place, part_count places q low))

  inside : (m : ℕ) → m < get_or lasts q 0 → operation_at t q m < size t
  inside m l = (at_some t q m (omega (arith, last-count, l))).below

  module _ {i own : ℕ} {nexts counts events waiting : List ℕ} {ready : ℕ} {now : List ℕ}
      (k : KeptAt t starts list ends lasts q i own nexts counts events waiting ready before now)
      (l : i < get_or lasts q 0) {nexts' counts' events' waiting' : List ℕ}
      (w : Walked list ends lasts nexts counts events waiting ready nexts' counts' events' waiting' 0) where
    -- ---- the walk, to its end

    own_at : Own t list ends lasts nexts' counts' q own i events' waiting'
    own_at =
        let (r, g) = k.going (inside i l) in
        let (s, on) = w.going t (operation_at t q i) q r g in
        let same = own-done fits on (at-rth t q i (inside i l)) (accepted-run x.accepted) in
        let still : set counts' q i ≡ counts' = ap (set counts' q) (sym same) ∙ set-get_or counts' q 0 in
        record {
          fits = fits;
          run = _;
          complete = accepted-run x.accepted;
          all = last-count;
          left = l;
          follows = k.own-list;
          so_far = r ++ s;
          going = rw still on;
        }

    -- ---- the stretch, and its rows

    module _ {at to freed : ℕ} {events'' waiting'' : List ℕ}
        (s : Passes list q own (get_or ends q 0) (get_or lasts q 0) events' waiting' events'' waiting'' at to freed) where
      passed : OwnPassed t list ends lasts nexts' counts' q i at to events'' waiting'' freed
      passed = s.passed t ends lasts nexts' counts' i refl refl own_at

      pub to-upto : (i < to) × (to ≤ get_or lasts q 0)
      to-upto = (passed.up, passed.most)

      -- no part ends behind the order
      part_end : get_or starts (q + 1) 0 ≤ n
      part_end = part-start places (q + 1) (omega (arith, low))

      -- the counts are as long as those of the walk
      pub room-along : {counts : List ℕ} → length counts ≡ 16 → RoomAlong p q i to order starts counts now
      room-along {counts} long =
          record {
            up = omega (arith, passed.up);
            own = low;
            known = hq;
            counters = long;
            places = omega (arith, passed.most, last-place, part_end, x.holds.few);
            each = each;
          }
        where
          each : (m : ℕ) → i ≤ m → m < to → RoomAt p (get_or order (get_or starts q 0 + m) 0) counts now
          each m h j =
              let at_place : get_or starts q 0 + m < n = omega (arith, j, passed.most, last-place, part_end) in
              let v = get_or order (get_or starts q 0 + m) 0 in
              let below : v < n = place-operation places (get_or starts q 0 + m) at_place in
              let row-end : v * p + p ≤ n * p = omega (arith, suc-mul v p, mul-le-mul_right p below) in
              record {
                workers = x.holds.most;
                few = omega (arith, row-end, few-numbers x.holds);
                counts_hold = omega (arith, long, x.holds.most);
                table_holds = omega (arith, row-end, x.room, k.same_length);
              }

      module _ {now' : List ℕ} (a : RowsAlong order starts p q i to counts' now now') where
        rows-to : (old : List ℕ) → RowsTo t starts (get_or starts q 0) old before
            → RowsTo t starts (get_or starts q 0 + to) old now'
        rows-to old r = a.rows t n places x.holds.workers hq passed.rows old (k.rows old r)

        -- ---- behind it

        pub kept_next : to < get_or lasts q 0
            → KeptAt t starts list ends lasts q to at nexts' (set counts' q to) events'' waiting'' freed before now'
        kept_next j =
            record {
              sized = w.sized;
              upto = passed.most;
              own-list = passed.follows j;
              going = passed.going;
              same_length = a.same_length ∙ k.same_length;
              rows = rows-to;
            }

        pub kept-last : get_or lasts q 0 ≤ to → FillsPart t starts q before now'
        kept-last j old r =
            let e : get_or starts q 0 + to ≡ get_or starts (q + 1) 0 = omega (arith, j, passed.most, last-place) in
            rw e at (rows-to old r)

        pub kept-on : KeptFilling t starts list ends lasts q to at nexts' (set counts' q to) events'' waiting'' freed
            before now'
        kept-on =
            record {
              sized = w.sized;
              upto = passed.most;
              kept = kept_next;
              filled = kept-last;
              same_length = a.same_length ∙ k.same_length;
              rows = rows-to;
            }

  -- ---- the end

  pub kept-to_end : {i own : ℕ} {nexts counts events waiting : List ℕ} {ready : ℕ} {now : List ℕ}
      → KeptTo t starts list ends lasts q i own nexts counts events waiting ready before now
      → get_or lasts q 0 ≤ i → FillsPart t starts q before now
  kept-to_end {i} k l old r =
      let e : get_or starts q 0 + i ≡ get_or starts (q + 1) 0 = omega (arith, l, k.upto, last-place) in
      rw e at (k.rows old r)

  pub kept-end : {i own : ℕ} {nexts counts events waiting : List ℕ} {ready : ℕ} {now : List ℕ}
      → KeptAt t starts list ends lasts q i own nexts counts events waiting ready before now
      → get_or lasts q 0 ≤ i → FillsPart t starts q before now
  kept-end k = kept-to_end (kept-to k)

  pub filling-end : {i own : ℕ} {nexts counts events waiting : List ℕ} {ready : ℕ} {now : List ℕ}
      → KeptFilling t starts list ends lasts q i own nexts counts events waiting ready before now
      → get_or lasts q 0 ≤ i → FillsPart t starts q before now
  filling-end k l = k.filled l

  -- a walk that is kept for an operation, whether or not the worker has it
  pub kept-filling : {i own : ℕ} {nexts counts events waiting : List ℕ} {ready : ℕ} {now : List ℕ}
      → KeptAt t starts list ends lasts q i own nexts counts events waiting ready before now
      → KeptFilling t starts list ends lasts q i own nexts counts events waiting ready before now
  kept-filling k =
      record {
        sized = k.sized;
        upto = k.upto;
        kept = λ l. k;
        filled = kept-end k;
        same_length = k.same_length;
        rows = k.rows;
      }
