-- The order table of an accepted file, as the code reads it. In order: what is known of the file; two entries tell
-- whether an operation must precede another.
use mathlib.Core.List.{List}
use mathlib.Core.Path.{◌≡◌, sym}
use Prim.Native.Nat.{ℕ, ◌+◌, ◌*◌, ◌<◌, ◌≤◌}
use lib.Dec.{leb}
use lib.ListN.{get_or}
use Rattle.trace.specs.Reading.{reads, file_reading, trace_of}
use Rattle.trace.specs.Trace.{size, worker_of}
use Rattle.model.specs.Computed.{row, must_precede_in}
use Rattle.model.proofs.TableRows.{rows-must-precede}
use Rattle.accept.proofs.Questions.{accepted-reads, accepted-holds, accepted-workers, accepted-run}
use Rattle.table_entries.specs.Entries.{HoldsTable, PairInTable}

pub table-reads : {bytes table : List ℕ} → HoldsTable bytes table → file_reading bytes ≡ reads (trace_of bytes)
table-reads h = accepted-reads h.accepted

-- there are at most 1,024 operations
pub table-short : {bytes table : List ℕ} → HoldsTable bytes table → size (trace_of bytes) ≤ 1024
table-short h = (accepted-holds h.accepted).few

pub pair-back : {bytes table : List ℕ} {p a b : ℕ} → PairInTable bytes table p a b → PairInTable bytes table p b a
pair-back r =
    record {
      holds = r.holds;
      workers = r.workers;
      first = r.second;
      second = r.first;
      differ = λ e. r.differ (sym e);
    }

module _ {bytes table : List ℕ} {p a b : ℕ} (r : PairInTable bytes table p a b) {q : ℕ}
    (e : q ≡ worker_of (trace_of bytes) b)
  where
    known : worker_of (trace_of bytes) b < (trace_of bytes).workers
    known = (accepted-workers r.holds.accepted).known b r.second

    -- the entries of b's worker in the rows of a and b
    pub entries-tell : must_precede_in (trace_of bytes) a b ≡ leb (get_or table (a * p + q) 0) (get_or table (b * p + q) 0)
    entries-tell = rw (← r.workers, e, first, second) rows
      where
        w : ℕ
        w = worker_of (trace_of bytes) b

        first : get_or table (a * (trace_of bytes).workers + w) 0 ≡ get_or (row (trace_of bytes) a) w 0
        first = r.holds.entry a w r.first known

        second : get_or table (b * (trace_of bytes).workers + w) 0 ≡ get_or (row (trace_of bytes) b) w 0
        second = r.holds.entry b w r.second known

        rows : must_precede_in (trace_of bytes) a b
            ≡ leb (get_or (row (trace_of bytes) a) w 0) (get_or (row (trace_of bytes) b) w 0)
        rows =
            let h = r.holds.accepted in
            rows-must-precede (accepted-workers h) (accepted-run h) a b r.differ r.second
