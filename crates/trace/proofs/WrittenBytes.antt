-- Each well-formed trace has a file. In order: a record is bytes; the file is bytes; reading it gives the trace.
use mathlib.Core.List.{List, [], ◌∷◌, ◌++◌}
use mathlib.Core.Path.{◌≡◌}
use native.Mathlib.Omega.{arith}
use Prim.Native.Nat.{ℕ, ◌<◌, ◌≤◌}
use Rattle.trace.specs.declared.Operation.{Operation}
use Rattle.trace.specs.Form.{Form, base}
use Rattle.trace.specs.Reading.{reads, file_reading}
use Rattle.trace.specs.Trace.{Trace, rank_after}
use Rattle.trace.specs.Writing.{record_bytes, records_bytes, bytes_of, header, WellFormed, Bytes}
use Rattle.trace.proofs.LittleEndian.{nil-bytes, cons-bytes, append-bytes, digits-bytes}
use Rattle.trace.proofs.WriteRead.{Storable, storable-first, storable-rest, reading-bytes}

module _ (f : Form) (first : f.first < 256) (second : f.second < 256) where
  record-bytes : (r : ℕ) (o : Operation) → o.worker < 256 → o.kind < 256 → Bytes (record_bytes f r o)
  unfolding record_bytes
  record-bytes r o w k =
      let tail = append-bytes _ _ (digits-bytes 2 o.length) (digits-bytes f.rank_width r) in
      let fields = append-bytes _ _ (digits-bytes 4 o.number) tail in
      cons-bytes first (cons-bytes second (cons-bytes w (cons-bytes k fields)))

  records-bytes : (p : ℕ) (before os : List Operation) → p ≤ 16 → Storable p os → Bytes (records_bytes f before os)
  unfolding records_bytes
  records-bytes p before [] l h = nil-bytes
  records-bytes p before (o ∷ os) l h =
      let a = storable-first h in
      append-bytes _ _
      (record-bytes (rank_after before o) o (omega (arith, a.worker)) (omega (arith, a.kind.1)))
      (records-bytes p (before ++ o ∷ []) os l (storable-rest h))

  pub file-bytes : (t : Trace) → WellFormed t → Bytes (bytes_of f t)
  unfolding bytes_of
  file-bytes t w =
      append-bytes _ _
      (record-bytes 0 (header t) (omega (arith, w.most)) (omega arith))
      (records-bytes t.workers [] t.operations w.most (record { each = w.each; fits = w.fits }))

-- Each well-formed trace has a file of document 01's form, and reading it gives the trace back.
pub trace-file : (t : Trace) → WellFormed t → Bytes (bytes_of base t) × (file_reading (bytes_of base t) ≡ reads t)
unfolding file_reading
trace-file t w = (file-bytes base (omega arith) (omega arith) t w, reading-bytes base t w)
