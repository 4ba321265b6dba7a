-- What callers know of a file that reads as a trace. In order: the trace; the bytes; the header; record k lies inside
-- the file. Which refusal a file gets is in FirstNo, which numbers and places there are in Refusals.
use mathlib.Core.List.{List, []}
use mathlib.Core.Logic.{◌↔◌}
use mathlib.Core.Path.{◌≡◌, refl, sym, ap, ◌∙◌}
use native.Mathlib.Nat.{mul-le-mul}
use native.Mathlib.Omega.{arith}
use Prim.Native.Nat.{ℕ, ◌+◌, ◌*◌, ◌<◌, ◌≤◌}
use lib.ListN.{length, drop}
use Rattle.trace.specs.Form.{Form, base, record_size, start}
use Rattle.trace.specs.Premises.{HoldsTrace}
use Rattle.trace.specs.Questions.{operation_in}
use Rattle.trace.specs.Reading.{Reading, refused, reads, reading, file_reading, trace_of}
use Rattle.trace.specs.Trace.{Trace, size, operation}
use Rattle.trace.specs.Writing.{bytes_of, WellFormed, Bytes}
use Rattle.trace.proofs.ReadWrite.{header-says, reads-workers, reads-count, reads-admitted, reads_at}
use Rattle.trace.proofs.ReadWrite.{reads-means}
use Rattle.trace.proofs.Records.{start-inside}

-- ---- the trace

pub trace-reads : (bytes : List ℕ) (t : Trace) → file_reading bytes ≡ reads t → trace_of bytes ≡ t
unfolding trace_of
trace-reads bytes t e = rw e

-- a refused file has no workers and no operations
pub trace-refused : (bytes : List ℕ) (q k : ℕ) → file_reading bytes ≡ refused q k
    → trace_of bytes ≡ record { workers = 0; operations = [] }
unfolding trace_of
trace-refused bytes q k e = rw e

-- what a file that reads as a trace holds
pub file-holds : (bytes : List ℕ) (t : Trace) → file_reading bytes ≡ reads t → HoldsTrace bytes t.workers (size t)
unfolding file_reading
file-holds bytes t e =
    let s = trace-reads bytes t e in
    let h = header-says base bytes t e in
    let workers = reads-workers base bytes t e in
    let count = reads-count base bytes t e in
    record {
      trace = e ∙ ap reads (sym s);
      workers = rw s;
      count = rw s;
      some = omega (arith, h.some);
      most = omega (arith, h.most);
      few = omega (arith, h.few);
      each = λ k l. rw s (reads-admitted base bytes t e k l);
    }

-- how long it is; in any form, too
pub reads-size : (f : Form) (bytes : List ℕ) (t : Trace) → reading f bytes ≡ reads t → length bytes ≡ start f (size t)
reads-size f bytes t e = rw (reads-count f bytes t e) at (header-says f bytes t e).whole

pub file-size : {bytes : List ℕ} {p n : ℕ} → HoldsTrace bytes p n → length bytes ≡ start base n
unfolding file_reading
file-size {bytes} h = rw h.count at (reads-size base bytes (trace_of bytes) h.trace)

-- n × p is at most 16,384
pub few-numbers : {bytes : List ℕ} {p n : ℕ} → HoldsTrace bytes p n → n * p ≤ 16384
few-numbers h = mul-le-mul {n₂ = 1024} {m₂ = 16} h.few h.most

-- ---- the bytes

-- A file reads as trace t exactly if it is the bytes of t, and t is well-formed.
pub file-means : (bytes : List ℕ) (t : Trace) → Bytes bytes
    → (file_reading bytes ≡ reads t) ↔ ((bytes ≡ bytes_of base t) × WellFormed t)
unfolding file_reading
file-means bytes t h = reads-means base bytes t h

-- ---- the header

-- the header of a file that reads as a trace lies inside the file, and its counts are the trace's
pub record HeaderOf (bytes : List ℕ) : Type 0 where
  pub inside : record_size base ≤ length bytes
  pub workers : (operation_in bytes).worker ≡ (trace_of bytes).workers
  pub count : (operation_in bytes).number ≡ size (trace_of bytes)

pub header_of : {bytes : List ℕ} → file_reading bytes ≡ reads (trace_of bytes) → HeaderOf bytes
unfolding file_reading
header_of {bytes} e =
    record {
      inside = omega (arith, (header-says base bytes (trace_of bytes) e).whole);
      workers = reads-workers base bytes (trace_of bytes) e;
      count = reads-count base bytes (trace_of bytes) e;
    }

-- ---- record k

-- operation k of the trace that a file reads as: its record lies inside the file, and it is what is written there
pub record RecordOf (bytes : List ℕ) (k : ℕ) : Type 0 where
  pub few : k < 1024
  pub inside : start base k + record_size base ≤ length bytes
  pub same : operation (trace_of bytes) k ≡ operation_in (drop (start base k) bytes)

-- the same of a trace, in any form
pub reads-inside : (f : Form) (bytes : List ℕ) (t : Trace) → reading f bytes ≡ reads t → (k : ℕ) → k < size t
    → start f k + record_size f ≤ length bytes
reads-inside f bytes t e k h =
    omega (arith, start-inside f k (size t) h, reads-size f bytes t e)

pub record_of : (bytes : List ℕ) (k : ℕ) → k < size (trace_of bytes) → RecordOf bytes k
unfolding file_reading
record_of bytes k h = go (file_reading bytes) refl
  where
    go : (r : Reading) → file_reading bytes ≡ r → RecordOf bytes k
    go (refused q j) e = absurd (omega (arith, ap size (trace-refused bytes q j e)))
    go (reads t) e =
        let s = trace-reads bytes t e in
        let l : k < size t = rw s at h in
        record {
          few = omega (arith, (header-says base bytes t e).few, reads-count base bytes t e);
          inside = reads-inside base bytes t e k l;
          same = rw s (reads_at base bytes t e k l);
        }
