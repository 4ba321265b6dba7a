-- What the call answers. In order: by the outcome of the questions; as the code comes to it; what the answer says.
use mathlib.Core.Bool.{Bool, true, false}
use mathlib.Core.List.{List}
use mathlib.Core.Logic.{◌⊎◌, inl, inr, ◌↔◌, ◌≢◌}
use mathlib.Core.Path.{◌≡◌, refl, sym, ◌∙◌}
use native.Mathlib.Omega.{arith}
use Prim.Native.Nat.{ℕ, ◌+◌, ◌<◌, ◌≤◌}
use lib.Dec.{leb}
use lib.ListN.{get_or}
use Rattle.runs.specs.Workers.{earlier}
use lib.IntN.{ℤ, pos, negsuc}
use Rattle.trace.specs.declared.TraceFile.{TraceFile}
use Rattle.trace.specs.Premises.{HoldsTrace}
use Rattle.trace.specs.Reading.{Reading, refused, trace_of}
use Rattle.trace.specs.Refusals.{by_earlier, by_this}
use Rattle.trace.specs.Trace.{Trace, worker_of}
use Rattle.trace.proofs.Fitting.{trace-fits}
use Rattle.trace.proofs.Outcomes.{tells-refusals, outcome-refused, outcome-reads, refuses-nothing, same-result}
use Rattle.model.specs.Computed.{must_precede_in, pair_order}
use Rattle.model.proofs.SharedOrder.{order-first, order-second, order-neither}
use Rattle.index.specs.Indexed.{Places}
use Rattle.index.proofs.Lookups.{holds-places}
use Rattle.states.specs.States.{next_of}
use Rattle.states.proofs.Answers.{exhausted-precedes}
use Rattle.courses.specs.Courses.{Opens, Ended, LeftOut}
use Rattle.trace.specs.Answer.{Refused}
use Rattle.pair_order.specs.Order.{Ordered}
use Rattle.accept.specs.Acceptance.{AcceptedTrace, accept_answer}
use Rattle.accept.proofs.Accepting.{handed-opens, parts-few}
use Rattle.accept.proofs.Answers.{refused-answer}
use Rattle.accept.proofs.Questions.{accepted-trace}
use Rattle.pair_order.specs.Order.{pair_reading, answer_of, order_answer}
use Rattle.index.specs.declared.IndexedFile.{IndexedFile}
use Rattle.index.specs.Indexed.{Indexed}
use Rattle.index.specs.Steps.{Handed}
use Rattle.pair_order.specs.Premises.{Pair, NoPair}
use Rattle.pair_order.specs.Refusals.{AcceptedNumbers, AcceptedPair, RefusedNumbers}
use Rattle.pair_order.proofs.Questions.{pair-comes-out}

-- ---- by the outcome of the questions

module _ (bytes : List ℕ) (a b : ℕ) where
  answer-by : {r : Reading} → pair_reading bytes a b ≡ r → answer_of a b r ≡ order_answer bytes a b
  unfolding order_answer
  answer-by e = rw e

  pub answer-pair : {t : Trace} → AcceptedPair bytes a b t → Ordered (pair_order t a b) ≡ order_answer bytes a b
  answer-pair {t} h = answer-by (((pair-comes-out bytes a b).passes t).1 h)

-- ---- as the code comes to it

-- must a precede b, by the end of the walk without a
pub walked-past : {bytes : List ℕ} {p n : ℕ} → HoldsTrace bytes p n → {a : ℕ} {done : List ℕ}
    → Ended (trace_of bytes) a done → (b : ℕ) → b < n → a ≢ b → {k : ℕ}
    → k ≡ next_of (trace_of bytes) done (worker_of (trace_of bytes) b) → leb k b ≡ must_precede_in (trace_of bytes) a b
walked-past h x b l d e = sym (rw e (exhausted-precedes (trace-fits h) x.exhausted b d (rw h.count l)))

-- the sign, by the two tests
module _ (t : Trace) (a b : ℕ) {forward : Bool} (i : forward ≡ must_precede_in t a b) where
  pub ordered-before : forward ≡ true → negsuc 0 ≡ pair_order t a b
  ordered-before e = sym (order-first t a b (sym i ∙ e))

  module _ (e : forward ≡ false) {backward : Bool} (j : backward ≡ must_precede_in t b a) where
    pub ordered-after : backward ≡ true → pos 1 ≡ pair_order t a b
    ordered-after f = sym (order-second t a b (sym i ∙ e) (sym j ∙ f))

    pub ordered-neither : backward ≡ false → pos 0 ≡ pair_order t a b
    ordered-neither f = sym (order-neither t a b (sym i ∙ e) (sym j ∙ f))

-- a file that reads as a trace, and its index
pub record Readable (bytes : List ℕ) (p n : ℕ) (order starts list ends : List ℕ) : Type 0 where
  pub holds : HoldsTrace bytes p n
  pub handed : Handed (trace_of bytes) order starts list ends

pub readable : (x : IndexedFile)
    → Readable x.trace.bytes.now x.trace.workers x.trace.operations x.index.now.order x.index.now.starts x.index.now.list
    x.index.now.ends
readable x = record { holds = x.trace.holds; handed = x.handed }

-- of it, the operations by worker
pub record Operations (bytes : List ℕ) (n : ℕ) (order starts : List ℕ) : Type 0 where
  pub workers : ℕ
  pub holds : HoldsTrace bytes workers n
  pub indexed : Indexed (trace_of bytes) order starts

pub indexed-operations : (trace : TraceFile) {order starts : List ℕ} → Indexed (trace_of trace.bytes.now) order starts
    → Operations trace.bytes.now trace.operations order starts
indexed-operations trace x = record { workers = trace.workers; holds = trace.holds; indexed = x }

-- worker and place of an operation, for the walk without it
module _ {bytes : List ℕ} {p n : ℕ} {order starts list ends : List ℕ}
    (x : Readable bytes p n order starts list ends) where
  pub readable-operations : Operations bytes n order starts
  readable-operations = record { workers = p; holds = x.holds; indexed = x.handed.indexed }

  pub readable-opens : Opens starts ends
  readable-opens = handed-opens x.holds x.handed

  pub readable-left-out : {a q prior : ℕ} → a < n → q ≡ worker_of (trace_of bytes) a
      → prior ≡ earlier (worker_of (trace_of bytes)) a → LeftOut (trace_of bytes) p starts list ends q prior a
  readable-left-out l e i =
      record {
        fits = trace-fits x.holds;
        workers = x.holds.workers;
        listed = x.handed.listed;
        below = rw x.holds.count l;
        own = sym e;
        ahead = sym i;
      }

module _ {bytes : List ℕ} {n : ℕ} {order starts : List ℕ} (x : Operations bytes n order starts) where
  pub operations-places : Places (trace_of bytes) n order starts
  operations-places = holds-places x.holds x.indexed

  -- the worker of an operation
  pub worker-known : {k q : ℕ} → k < n → q ≡ worker_of (trace_of bytes) k → q < (trace_of bytes).workers
  worker-known l e = rw (e, x.holds.workers) (x.holds.each _ l).worker

  pub worker-low : {k q : ℕ} → k < n → q ≡ worker_of (trace_of bytes) k
      → (q < 16) × (get_or starts (q + 1) 0 ≤ 1024)
  worker-low {q = q} l e =
      let low : q < 16 = omega (arith, worker-known l e, x.holds.workers, x.holds.most) in
      (low, parts-few x.holds x.indexed q low)

module _ {bytes : List ℕ} {p n : ℕ} (accepted : AcceptedTrace bytes (trace_of bytes)) (h : HoldsTrace bytes p n)
    (a b : ℕ) where
  numbers : a < n → b < n → AcceptedNumbers bytes a b (trace_of bytes)
  numbers i j = record { accepted = accepted; first_below = rw h.count i; second_below = rw h.count j }

  pub accepted-pair : Pair n a b → AcceptedPair bytes a b (trace_of bytes)
  accepted-pair y = record { numbers = numbers y.first_below y.second_below; differ = y.differ }

  pub answer-ordered : Pair n a b → {sign : ℤ} → sign ≡ pair_order (trace_of bytes) a b
      → Ordered sign ≡ order_answer bytes a b
  answer-ordered y e = rw e (answer-pair bytes a b (accepted-pair y))

  pub answer-high : (n ≤ a) ⊎ (n ≤ b) → Refused 12 0 ≡ order_answer bytes a b
  answer-high s = answer-by bytes a b (((pair-comes-out bytes a b).refuses 12 0).1 (by_earlier high))
    where
      high : RefusedNumbers bytes a b 12 0
      high = by_this (trace_of bytes) accepted (rw h.count s) refl refl

  -- no pair, and both below n: the same number
  pub answer-same : NoPair n a b → a < n → b < n → Refused 13 0 ≡ order_answer bytes a b
  answer-same none i j =
      let refusal = by_this (trace_of bytes) (numbers i j) (same none) refl refl in
      answer-by bytes a b (((pair-comes-out bytes a b).refuses 13 0).1 refusal)
    where
      same : NoPair n a b → a ≡ b
      same (inl l) = absurd (omega (arith, l, i))
      same (inr (inl l)) = absurd (omega (arith, l, j))
      same (inr (inr e)) = e

pub answer-unaccepted : (bytes : List ℕ) (a b : ℕ) {q k : ℕ} → accept_answer bytes ≡ Refused q k
    → Refused q k ≡ order_answer bytes a b
answer-unaccepted bytes a b {q} {k} i =
    let refusal = by_earlier (by_earlier ((refused-answer bytes q k).0 i)) in
    answer-by bytes a b (((pair-comes-out bytes a b).refuses q k).1 refusal)

-- ---- what the answer says

module _ (bytes : List ℕ) (a b : ℕ) where
  pub order-refused : (q k : ℕ) → (order_answer bytes a b ≡ Refused q k) ↔ (pair_reading bytes a b ≡ refused q k)
  unfolding order_answer
  order-refused q k = outcome-refused (answer_of a b) (tells-refusals _) (pair_reading bytes a b) q k

  -- a and b are two different operations of the accepted trace, and the sign is their order
  pub order-ordered : (sign : ℤ) → order_answer bytes a b ≡ Ordered sign
      → AcceptedPair bytes a b (trace_of bytes) × (sign ≡ pair_order (trace_of bytes) a b)
  unfolding order_answer
  order-ordered sign i =
      let (t, e, j) = outcome-reads (answer_of a b) (refuses-nothing (λ t. pair_order t a b) _) (pair_reading bytes a b) i in
      let pair = ((pair-comes-out bytes a b).passes t).0 e in
      let same : sign ≡ pair_order t a b = sym (same-result j) in
      rw (accepted-trace pair.numbers.accepted) (pair, same)
