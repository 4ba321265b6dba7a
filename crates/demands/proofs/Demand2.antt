-- The customer's demand 2, sentence by sentence, as theorems about what the calls answer and leave in lent memory, at
-- any file bytes and lent memory: by the definitions that their contracts equal, or, of the calls that write, by their
-- promises (`TableCall`, `ListCall`, `RacesCall`, `CanonicalCall`). Those of the report are in Report.
use mathlib.Core.List.{List}
use mathlib.Core.Logic.Iff
use mathlib.Core.Logic.{◌↔◌, ◌≢◌}
use mathlib.Core.Path.{◌≡◌, refl, sym, ap, ◌∙◌}
use native.Mathlib.Nat.{le_refl}
use native.Mathlib.Omega.{arith}
use Prim.Native.Nat.{ℕ, ◌+◌, ◌*◌, ◌<◌, ◌≤◌}
use lib.ListN.{length, get_or, take}
use Rattle.basics.specs.Membership.{◌∈◌, ◌∉◌, ◌⊆◌, SameOperations}
use Rattle.basics.proofs.Members.{lacks}
use Rattle.runs.specs.Workers.{count}
use Rattle.trace.specs.Form.{base}
use Rattle.trace.specs.Reading.{Reading, refused, reads, file_reading}
use Rattle.trace.specs.Refusals.{reading_numbers}
use Rattle.trace.specs.Trace.{Trace, size, worker_of, rank}
use Rattle.trace.proofs.Refusals.{file-refused-first, reading-number}
use Rattle.model.specs.LargestRuns.{MaximalExecution, ContainsAllowed, LargestRunWithout, LargestRun, LowestOutside}
use Rattle.model.specs.Orders.{MustPrecedeIn}
use Rattle.model.specs.Runs.{RunOf, CompleteRunOf, NoCompleteRun}
use Rattle.model.proofs.Largest.{execution-largest, execution-definition, execution-contains, execution-same}
use Rattle.model.proofs.Largest.{execution-exists, execution-nothing}
use Rattle.model.proofs.SharedOrder.{unordered-executions}
use Rattle.accept.specs.Acceptance.{AcceptedTrace, accept_answer}
use Rattle.std.specs.Prelude.{Result}
use Rattle.trace.specs.declared.Counts.{Counts}
use Rattle.races.specs.declared.answer.Races.{Races}
use Rattle.trace.specs.declared.Refusal.{Refusal}
use Rattle.trace.specs.Answer.{Refused}
use Rattle.accept.specs.Acceptance.{Accepted}
use Rattle.races.specs.Races.{Listed}
use Rattle.canonical.specs.CanonicalFile.{Written}
use Rattle.accept.proofs.Accepting.{answer-unread}
use Rattle.accept.proofs.Answers.{answer-means, accepted-answer}
use Rattle.accept.proofs.Questions.{refused-place, accepted-complete, refused-incomplete}
use Rattle.accept.proofs.Questions.{accepted-same, accepted-workers}
use Rattle.order_table.specs.Refusals.{AcceptedTable}
use Rattle.order_table.specs.Table.{TableCall}
use Rattle.order_table.proofs.Entries.{after-execution, after-must-precede, after-past}
use Rattle.race_model.specs.declared.Race.{Race}
use Rattle.race_model.specs.Race.{Conflict, RaceIn, RaceListOf}
use Rattle.race_model.specs.RaceList.{race_list, race_count}
use Rattle.race_model.proofs.OnlyList.{list_of, list-only}
use Rattle.races.specs.Races.{race_records, shorter, CountCall, RacesCall}
use Rattle.races.specs.Refusals.{AcceptedRaces}
use Rattle.races.proofs.Answers.{races-listed, races-short}
use Rattle.races.proofs.Listed.{lists-hold, lists-past}
use Rattle.race_list.specs.Listing.{ListCall}
use Rattle.race_list.proofs.Lists.{list_holds, list-past}
use Rattle.canonical.specs.CanonicalFile.{canonical_trace, SameWorkers, canonical_bytes, CanonicalCall}
use Rattle.canonical.specs.Refusals.{AcceptedOutput}
use Rattle.canonical.proofs.ByWorker.{canonical-size, canonical-same-workers, same-canonical}
use Rattle.canonical.proofs.Outputs.{after-canonical, same_bytes}
use Rattle.canonical.proofs.Outputs as outputs
use Rattle.canonical.proofs.ReadBack.{canonical-file-length, canonical-accepted}
use Rattle.demands.specs.Outcomes.{gives}
use Rattle.demands.proofs.Demand1.{canonical-answers}

-- "The table [is that] of the maximal valid executions of Wisconsin report 1084."

-- For an accepted file, a lent table that holds at least n × p numbers, and what the call (`TableCall`) leaves in it:
module _ {bytes : List ℕ} {t : Trace} (h : AcceptedTrace bytes t) {lent now : List ℕ} {answer : Result Counts Refusal}
    (l : size t * t.workers ≤ length lent) (c : TableCall bytes lent answer now) where
  room : AcceptedTable bytes (length lent) t
  room = record { accepted = h; table_holds = l }

  -- Entry q of row k is the number of worker q's operations in every maximal valid execution without k:
  pub table-entry : (k q : ℕ) → k < size t → q < t.workers → (m : List ℕ) → MaximalExecution t k m
      → get_or now (k * t.workers + q) 0 ≡ count (worker_of t) q m
  table-entry k q i j m e = rw c.leaves (after-execution lent room k q i j m e)

  -- For operations a ≠ b, a must precede b exactly if the entry of b's worker in row a is below b's rank:
  pub table-must-precede : (a b : ℕ) → a ≢ b → a < size t → b < size t
      → MustPrecedeIn t a b ↔ (get_or now (a * t.workers + worker_of t b) 0 < rank t b)
  table-must-precede a b d i j = rw c.leaves (after-must-precede lent room a b d i j)

  -- What lies behind the n rows of p numbers is as before:
  pub table-past : (i : ℕ) → size t * t.workers ≤ i → get_or now i 0 ≡ get_or lent i 0
  table-past i j = rw c.leaves (after-past lent room i j)

-- There is a maximal valid execution without k, whatever k is:
pub execution-without : (t : Trace) (k : ℕ) → (m : List ℕ) × MaximalExecution t k m
execution-without t k = execution-exists t k

-- Of every trace, and so of an accepted file's, whatever a is: a maximal valid execution without a is that of report
-- 1084's Definition 1, in the report's words (`ContainsAllowed`), and document 01's "run lacking a with the most
-- operations"; "its set is unique and contains every run lacking a".
module _ (t : Trace) {a : ℕ} {m : List ℕ} where
  pub execution-by-definition : MaximalExecution t a m ↔ (RunOf t m × (a ∉ m) × ContainsAllowed t a m)
  execution-by-definition = execution-definition t

  pub execution-has-most : MaximalExecution t a m ↔ LargestRunWithout t a m
  execution-has-most = execution-largest t

  pub execution-set-unique : {k : List ℕ} → MaximalExecution t a m → MaximalExecution t a k → SameOperations m k
  execution-set-unique p q = execution-same t p q

  pub execution-contains-runs : {r : List ℕ} → MaximalExecution t a m → RunOf t r → a ∉ r → r ⊆ m
  execution-contains-runs p r n = execution-contains t p r n

-- "The races [are those] of the maximal valid executions of Wisconsin report 1084."

-- Two operations a < b race exactly if both are Read or Write, at least one a Write, with a common cell (`Conflict`), b
-- is in every maximal valid execution without a, and a in every one without b:
pub race-executions : (t : Trace) (a b : ℕ)
    → RaceIn t a b
    ↔ (Conflict t a b
    × ((m : List ℕ) → MaximalExecution t a m → b ∈ m)
    × ((m : List ℕ) → MaximalExecution t b m → a ∈ m))
race-executions t a b = (
  λ r. let (x, y) = (unordered-executions t (differ r.conflict)).0 r.unordered in (r.conflict, x, y),
  λ p. record { conflict = p.0; unordered = (unordered-executions t (differ p.0)).1 (p.1, p.2) },
)
  where
    differ : Conflict t a b → a ≢ b
    differ c e = omega (arith, c.ascending, e)

-- The list of an accepted trace's races, "ascending by lower, then higher, each once": there is one, which `race_list`
-- computes, and only one.
module _ {bytes : List ℕ} {t : Trace} (h : AcceptedTrace bytes t) where
  pub race-list-exists : (l : List Race) × RaceListOf t l
  race-list-exists = (race_list t, list_of (accepted-workers h))

  pub race-list-computed : RaceListOf t (race_list t)
  race-list-computed = list_of (accepted-workers h)

  pub race-list-same : {l k : List Race} → RaceListOf t l → RaceListOf t k → l ≡ k
  race-list-same p q = list-only (accepted-workers h) p ∙ sym (list-only (accepted-workers h) q)

-- For an accepted file, a lent table that holds at least n × p numbers, and what a call with a list of `room` records
-- answers, in either form of the list (`CountCall`; demand 1's `race-list-as-count`, `races-as-count`):
module _ {bytes : List ℕ} {t : Trace} (h : AcceptedTrace bytes t) {lent table-now : List ℕ} {room : ℕ}
    {answer : Result Races Refusal} (l : size t * t.workers ≤ length lent)
    (c : CountCall bytes lent room answer table-now) where
  filled : AcceptedTable bytes (length lent) t
  filled = record { accepted = h; table_holds = l }

  same_count : {all : List Race} → RaceListOf t all → length all ≡ race_count t
  same_count r = ap length (list-only (accepted-workers h) r)

  -- The races are listed exactly if there are no more of them than records, and the count is how many there are:
  pub races-count : {all : List Race} → RaceListOf t all → (m : ℕ)
      → (answer ≡ Listed t.workers (size t) m) ↔ ((length all ≤ room) × (m ≡ length all))
  races-count {all} r m = rw c.answers (Iff.trans (races-listed bytes (length lent) room h m) (
    λ p. (omega (arith, p.0.list_holds, same_count r), omega (arith, p.1, same_count r)),
    λ p. (
      record { filled = filled; list_holds = omega (arith, p.0, same_count r) },
      omega (arith, p.1, same_count r),
    ),
  ))

  -- The buyer: "'No space for the races' must agree with the real number of races."
  pub races-no-space : {all : List Race} → RaceListOf t all → (k : ℕ)
      → (answer ≡ Refused 16 k) ↔ ((room < length all) × (k ≡ length all))
  races-no-space r k = rw (c.answers, same_count r) (races-short bytes (length lent) room filled k)

-- Where they are listed, the first records of the list are the list of races, and what lies behind them is as before;
-- so for the list of records:
module _ {bytes : List ℕ} {t : Trace} (h : AcceptedTrace bytes t) {lent table-now : List ℕ}
    {list list-now : List Race} {answer : Result Races Refusal} (c : ListCall bytes lent list answer table-now list-now) {m : ℕ}
    (a : answer ≡ Listed t.workers (size t) m) where
  listed : AcceptedRaces bytes (length lent) (length list) t × (m ≡ race_count t)
  listed = (races-listed bytes (length lent) (length list) h m).0 (sym c.answers ∙ a)

  pub race-list-holds : RaceListOf t (take m list-now)
  race-list-holds =
      rw (c.leaves_list, listed.1, list_holds bytes lent list listed.0) (list_of (accepted-workers h))

  pub race-list-past : (d : Race) (i : ℕ) → m ≤ i → get_or list-now i d ≡ get_or list i d
  race-list-past d i l = rw c.leaves_list (list-past bytes lent list listed.0 d i (omega (arith, listed.1)))

-- and for the two lists of numbers, each place of which is a record:
module _ {bytes : List ℕ} {t : Trace} (h : AcceptedTrace bytes t)
    {lent lower higher table-now lower-now higher-now : List ℕ} {answer : Result Races Refusal}
    (c : RacesCall bytes lent lower higher answer table-now lower-now higher-now) {m : ℕ}
    (a : answer ≡ Listed t.workers (size t) m) where
  both-listed : AcceptedRaces bytes (length lent) (shorter (length lower) (length higher)) t × (m ≡ race_count t)
  both-listed = (races-listed bytes (length lent) _ h m).0 (sym c.answers ∙ a)

  pub races-hold : RaceListOf t (take m (race_records lower-now higher-now))
  races-hold =
      let hold = lists-hold bytes lent lower higher both-listed.0 in
      rw (c.leaves_lower, c.leaves_higher, both-listed.1, hold) (list_of (accepted-workers h))

  pub races-past : (i : ℕ) → m ≤ i → (get_or lower-now i 0 ≡ get_or lower i 0) × (get_or higher-now i 0 ≡ get_or higher i 0)
  races-past i l =
      let past = lists-past bytes lent lower higher both-listed.0 i (omega (arith, both-listed.1)) in
      rw (c.leaves_lower, c.leaves_higher) past

-- "The refusal of stuck traces [is that] of the maximal valid executions of Wisconsin report 1084."

-- A file that reads as a trace is refused 10 exactly if its trace has no complete run, and otherwise accepted:
module _ (bytes : List ℕ) (t : Trace) (e : file_reading bytes ≡ reads t) where
  pub refused-ten-exactly : ((k : ℕ) × (accept_answer bytes ≡ Refused 10 k)) ↔ NoCompleteRun t
  refused-ten-exactly = (
    λ a. (refused-incomplete bytes t e).0 (a.0, (answer-means bytes 10 a.0).0 a.1),
    λ n. let i = (refused-incomplete bytes t e).1 n in (i.0, (answer-means bytes 10 i.0).1 i.1),
  )

  pub accepted-exactly : (accept_answer bytes ≡ Accepted t.workers (size t)) ↔ ((r : List ℕ) × CompleteRunOf t r)
  accepted-exactly = Iff.trans (forth, back) (accepted-complete bytes t e)
    where
      forth : accept_answer bytes ≡ Accepted t.workers (size t) → AcceptedTrace bytes t
      forth a = (accepted-answer bytes t).1 (e, a)

      back : AcceptedTrace bytes t → accept_answer bytes ≡ Accepted t.workers (size t)
      back p = ((accepted-answer bytes t).0 p).1

  -- The place is the lowest operation outside the largest run, and only that:
  pub place-exactly : (k : ℕ) → (accept_answer bytes ≡ Refused 10 k) ↔ LowestOutside t k
  place-exactly k = Iff.trans (answer-means bytes 10 k) (refused-place bytes t e k)

  -- In the report's words: it is in no maximal valid execution with nothing excluded (leaving out a number that no
  -- operation has), and every lower operation is in each of them:
  pub place-executions : (k : ℕ)
      → (accept_answer bytes ≡ Refused 10 k)
      ↔ ((k < size t)
      × ((m : List ℕ) → MaximalExecution t (size t) m → (k ∉ m) × ((j : ℕ) → j < k → j ∈ m)))
  place-executions k = Iff.trans (place-exactly k) (
    λ o. (o.operation, λ m p. let l = (nothing m).0 p in (o.outside m l, o.lowest m l)),
    λ p. record {
      operation = p.0;
      outside = λ m l. (p.1 m ((nothing m).1 l)).0;
      lowest = λ m l. (p.1 m ((nothing m).1 l)).1;
    },
  )
    where
      nothing : (m : List ℕ) → MaximalExecution t (size t) m ↔ LargestRun t m
      nothing m = execution-nothing t (le_refl (size t))

-- No other file is refused 10:
pub refused-ten-only : (bytes : List ℕ) (k : ℕ) → accept_answer bytes ≡ Refused 10 k
    → (t : Trace) × (file_reading bytes ≡ reads t) × NoCompleteRun t
refused-ten-only bytes k a = go (file_reading bytes) refl
  where
    go : (r : Reading) → file_reading bytes ≡ r → (t : Trace) × (file_reading bytes ≡ reads t) × NoCompleteRun t
    go (refused q j) e =
        let same : ◌≡◌ {A = Result Counts Refusal} (Refused q j) (Refused 10 k) = answer-unread bytes e ∙ a in
        let refusal : ◌≡◌ {A = Refusal} (record { number = q; place = j }) (record { number = 10; place = k }) = cc in
        let ten : q ≡ 10 = ap (λ (r : Refusal). r.number) refusal in
        let number = reading-number bytes q j ((file-refused-first bytes q j).0 e) in
        absurd (lacks 10 reading_numbers tt (rw ten at number))
    go (reads t) e = (t, e, (refused-ten-exactly bytes t e).0 (k, a))

-- "A tidied trace reads back as the same workers' operations, while two traces with the same worker count and the same
-- operations in each worker's order tidy to the same bytes."

-- For an accepted file, an output that holds at least as many bytes, and what the call (`CanonicalCall`) leaves in it:
module _ {bytes : List ℕ} {t : Trace} (h : AcceptedTrace bytes t) {lent now : List ℕ} {answer : Result ℕ Refusal}
    (l : length bytes ≤ length lent) (c : CanonicalCall bytes lent answer now) where
  output : AcceptedOutput bytes (length lent) t
  output = record { accepted = h; output_holds = l }

  -- The first bytes, as many as the file has, are the tidy file, "the header, then worker 0's operations in order, then
  -- worker 1's, and so on", and the answer is how many:
  pub canonical-holds : take (length bytes) now ≡ canonical_bytes base t
  canonical-holds = rw c.leaves (after-canonical lent output)

  pub canonical-count : answer ≡ Written (length bytes)
  canonical-count = rw (← canonical-file-length h) ((canonical-answers c _).1 (gives output))

  -- What lies behind them is as before:
  pub canonical-past : (i : ℕ) → length bytes ≤ i → get_or now i 0 ≡ get_or lent i 0
  canonical-past i j = rw c.leaves (outputs.after-past lent output i j)

  -- They are accepted, and read as a trace of the same workers' operations, and of as many:
  pub canonical-reads-back :
      (u : Trace) × AcceptedTrace (take (length bytes) now) u × SameWorkers u t × (size u ≡ size t)
  canonical-reads-back =
      let accepted = rw (← canonical-holds) at (canonical-accepted c.byte_elements h) in
      (canonical_trace t, accepted, canonical-same-workers t, canonical-size (accepted-workers h))

-- Two accepted files tidy to the same bytes if they have the same workers' operations,
module _ {f g : List ℕ} {t u : Trace} (h : AcceptedTrace f t) (k : AcceptedTrace g u)
    {f-lent f-now g-lent g-now : List ℕ} {f-answer g-answer : Result ℕ Refusal}
    (l : length f ≤ length f-lent) (m : length g ≤ length g-lent)
    (c : CanonicalCall f f-lent f-answer f-now) (d : CanonicalCall g g-lent g-answer g-now) where
  pub canonical-same-bytes : SameWorkers t u → take (length f) f-now ≡ take (length g) g-now
  canonical-same-bytes s = canonical-holds h l c ∙ same_bytes base s ∙ sym (canonical-holds k m d)

  -- and only then:
  pub canonical-same-only : take (length f) f-now ≡ take (length g) g-now → SameWorkers t u
  canonical-same-only e =
      let same : canonical_bytes base t ≡ canonical_bytes base u
      = sym (canonical-holds h l c) ∙ e ∙ canonical-holds k m d in
      let accepted = rw same at (canonical-accepted c.byte_elements h) in
      same-canonical (accepted-same accepted (canonical-accepted d.byte_elements k))

-- Tidying a tidied file gives it back:
pub canonical-again : {bytes : List ℕ} {t : Trace} → AcceptedTrace bytes t
    → {lent now again-lent again-now : List ℕ} {answer again : Result ℕ Refusal} → length bytes ≤ length lent
    → CanonicalCall bytes lent answer now → length bytes ≤ length again-lent
    → CanonicalCall (take (length bytes) now) again-lent again again-now
    → take (length bytes) again-now ≡ take (length bytes) now
canonical-again {bytes} {t} h {now = now} l c m d =
    let tidied = canonical-holds h l c in
    let accepted : AcceptedTrace (take (length bytes) now) (canonical_trace t)
    = rw tidied (canonical-accepted c.byte_elements h) in
    let long : length (take (length bytes) now) ≡ length bytes = rw tidied (canonical-file-length h) in
    rw long at (canonical-holds accepted (omega (arith, long, m)) d)
    ∙ same_bytes base (canonical-same-workers t)
    ∙ sym tidied
