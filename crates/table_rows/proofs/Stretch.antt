-- A stretch of one worker's rows, which differ in its own count alone, row by row. In order: none; whatever the
-- worker's own count; one more.
use mathlib.Core.List.{List}
use mathlib.Core.Path.{◌≡◌, refl, ◌∙◌}
use native.Mathlib.Omega.{arith}
use Prim.Native.Nat.{ℕ, ◌+◌, ◌<◌, ◌≤◌}
use lib.ListN.{length, get_or, set, take, replicate, length-set}
use lib.Seq.{set-get_or, set-set, length-take-le}
use Rattle.basics.proofs.Bits.{zeros}
use Rattle.trace.specs.Trace.{Trace}
use Rattle.model.specs.Computed.{row}
use Rattle.index.specs.Indexed.{Places, Rth}
use Rattle.index.proofs.Lookups.{part_count, part-rth}
use Rattle.index.proofs.Operations.{rth-at, at_count}
use Rattle.walk.specs.Going.{Walked}
use Rattle.table_rows.specs.Filling.{RoomAt, RoomAlong, row_put, place_of, RowsTo, RowsOf, RowsAlong}
use Rattle.table_rows.proofs.Rows.{put-length, rows_more}

-- ---- none

pub along-start : (order starts : List ℕ) (p q i : ℕ) (counts before : List ℕ)
    → RowsAlong order starts p q i i counts before before
along-start order starts p q i counts before = record { same_length = refl; rows = λ t n x e l r old y. y }

-- ---- whatever the worker's own count

pub along-own : {order starts : List ℕ} {p q i j : ℕ} (counts : List ℕ) {before now : List ℕ} (v : ℕ)
    → RowsAlong order starts p q i j counts before now → RowsAlong order starts p q i j (set counts q v) before now
along-own {q = q} counts v s =
    record {
      same_length = s.same_length;
      rows = λ t n x e l r old y. s.rows t n x e l (record {
        inside = r.inside;
        each = λ m h k. rw (set-set counts q v m) at (r.each m h k);
      }) old y;
    }

-- nothing done, and none of the worker's
abbrev none : List ℕ
none = replicate 16 0

-- of the counts, room is a matter of their length alone
pub room-counts : {p q i j : ℕ} {order starts : List ℕ} {counts counts' table : List ℕ} → length counts ≡ 16
    → RoomAlong p q i j order starts counts' table → RoomAlong p q i j order starts counts table
room-counts {counts = counts} long r =
    record {
      up = r.up;
      own = r.own;
      known = r.known;
      counters = long;
      places = r.places;
      each = λ m h l.
          let k = r.each m h l in
          record {
            workers = k.workers;
            few = k.few;
            counts_hold = omega (arith, long, k.workers);
            table_holds = k.table_holds;
          };
    }

pub none-own : (q : ℕ) → set none q 0 ≡ none
none-own q = rw (zeros 16 q) at (set-get_or none q 0)

pub walked-own : (q : ℕ)
    {list ends lasts nexts counts events waiting nexts' counts' events' waiting' : List ℕ} {ready ready' : ℕ}
    → Walked list ends lasts nexts counts events waiting ready nexts' counts' events' waiting' ready'
    → (m : ℕ) × Walked list ends lasts nexts counts events waiting ready nexts' (set counts' q m) events' waiting'
    ready'
walked-own q {counts' = counts'} w = (get_or counts' q 0, rw (set-get_or counts' q 0) w)

-- ---- one more

module _ {p q i j : ℕ} {order starts counts before : List ℕ} (room : RoomAlong p q i j order starts counts before)
    {m : ℕ} {now : List ℕ} (s : RowsAlong order starts p q i m counts before now) (h : i ≤ m) (l : m < j) where
  pub along-room : RoomAt p (get_or order (get_or starts q 0 + m) 0) counts now
  along-room =
      let r = room.each m h l in
      record {
        workers = r.workers;
        few = r.few;
        counts_hold = r.counts_hold;
        table_holds = omega (arith, r.table_holds, s.same_length);
      }

  pub along-next : {next : List ℕ}
      → next ≡ row_put p (get_or order (get_or starts q 0 + m) 0) (take p (set counts q m)) now
      → RowsAlong order starts p q i (m + 1) counts before next
  along-next {next} e = record { same_length = long ∙ s.same_length; rows = rows }
    where
      k : ℕ
      k = get_or order (get_or starts q 0 + m) 0

      long : length next ≡ length now
      long =
          rw e (put-length p k (take p (set counts q m)) now
          (length-take-le p (set counts q m) (omega (arith, along-room.counts_hold, length-set counts q m)))
          along-room.table_holds)

      rows : (t : Trace) (n : ℕ) → Places t n order starts → t.workers ≡ p → q < p → RowsOf t q i (m + 1) counts
          → (old : List ℕ) → RowsTo t starts (get_or starts q 0 + i) old before
          → RowsTo t starts (get_or starts q 0 + (m + 1)) old next
      rows t n x w known r old y =
          let on : get_or starts q 0 + m + 1 ≡ get_or starts q 0 + (m + 1) = omega arith in
          let more = rows_more x before-this o.below here row_here (rw w along-room.table_holds) in
          rw (e, ← w) (rw on at more)
        where
          before-this : RowsTo t starts (get_or starts q 0 + m) old now
          before-this =
              s.rows t n x w known (record {
                inside = λ v a b. r.inside v a (omega arith);
                each = λ v a b. r.each v a (omega arith);
              }) old y

          o : Rth t q m (get_or order (get_or starts q 0 + m) 0)
          o =
              let few = at_count t q m (r.inside m h (omega arith)) in
              let all = rw (← x.count) at (part_count x q room.own) in
              (part-rth x q m (rw w known) (omega (arith, few, all))).1

          here : place_of t starts k ≡ get_or starts q 0 + m
          here = rw (o.ahead, o.own)

          row_here : take t.workers (set counts q m) ≡ row t k
          row_here = rw (← rth-at t o) (r.each m h (omega arith))
