-- What the call answers and leaves in lent memory. In order: by the outcome of the questions; as the code comes to it;
-- the races that an answer lists; the call's promise; what the answer says.
use Rattle.std.specs.Prelude.{None, Some, Result, Ok, Err}
use mathlib.Core.List.{List, []}
use mathlib.Core.Logic.Iff
use mathlib.Core.Logic.{inl, inr, ◌↔◌}
use mathlib.Core.Path.{◌≡◌, refl, sym, ap, ◌∙◌}
use native.Mathlib.Omega.{arith}
use Prim.Native.Nat.{ℕ, ◌<◌, ◌≤◌, min}
use lib.ListN.{length}
use borrow.Author.Tests.{le-leb, lt-leb}
use Rattle.basics.proofs.Booleans.{zero_one, less?}
use Rattle.trace.specs.declared.Refusal.{Refusal}
use Rattle.trace.specs.Answer.{Refused}
use Rattle.trace.specs.Premises.{HoldsTrace}
use Rattle.trace.specs.Reading.{Reading, refused, reads, trace_of}
use Rattle.trace.specs.Refusals.{by_earlier, by_this}
use Rattle.trace.specs.Trace.{Trace, size}
use Rattle.trace.proofs.Outcomes.{outcome-refused, outcome-reads, outcome-passes, tells-refusals, refuses-nothing}
use Rattle.trace.proofs.Outcomes.{same-result}
use Rattle.accept.specs.Acceptance.{AcceptedTrace}
use Rattle.accept.proofs.Questions.{accepted-trace, accepted-same}
use Rattle.order_table.specs.Refusals.{AcceptedTable}
use Rattle.order_table.specs.Table.{Filled, table_answer, table_after}
use Rattle.order_table.proofs.Answers.{table-refused, table_filled}
use Rattle.order_table.proofs.Entries.{after-length, after-entry}
use Rattle.order_table.proofs.Questions.{table-comes-out}
use Rattle.table_entries.specs.Entries.{HoldsTable}
use Rattle.race_model.specs.RaceList.{race_list, race_count}
use Rattle.races.specs.Premises.{AllWritten, too_many, ListsCall}
use Rattle.races.specs.Races.{lower_after, higher_after, CountCall, RacesCall}
use Rattle.races.specs.Races.{Listed, races_reading, races_of, answer_of, races_answer, listed_by, races_listed}
use Rattle.races.specs.Races.{shorter}
use Rattle.races.specs.Refusals.{AcceptedRaces, RefusedRaces}
use Rattle.races.specs.declared.answer.Races.{Races}
use Rattle.races.proofs.Questions.{races-comes-out, refused-short}

-- ---- by the outcome of the questions

module _ (bytes : List ℕ) (numbers room : ℕ) {r : Reading} (e : races_reading bytes numbers room ≡ r) where
  pub answer-by : races_answer bytes numbers room ≡ answer_of r
  unfolding races_answer
  answer-by = rw e

  pub races_listed-by : races_listed bytes numbers room ≡ listed_by r
  unfolding races_listed
  races_listed-by = rw e

-- ---- as the code comes to it

module _ (bytes lent : List ℕ) {now : List ℕ} (e : now ≡ table_after bytes lent) where
  -- the order table of an accepted file, after the call that fills it
  holds_after : {t : Trace} → AcceptedTable bytes (length lent) t → HoldsTable bytes now
  holds_after {t} f =
      let same = accepted-trace f.accepted in
      record {
        accepted = rw same f.accepted;
        room = rw (same, e, after-length bytes lent) f.table_holds;
        entry = rw (same, e) (after-entry lent f);
      }

  pub table-after-holds : {p n : ℕ} → table_answer bytes lent ≡ Filled p n
      → HoldsTable bytes now × HoldsTrace bytes p n
  table-after-holds {p} {n} a =
      let (filled, holds) = table_filled bytes lent p n a in
      (holds_after filled, holds)

module _ {bytes table : List ℕ} {p n : ℕ} (h : HoldsTable bytes table) (t : HoldsTrace bytes p n) (room : ℕ)
    {count : ℕ} (e : count ≡ race_count (trace_of bytes)) where
  filled : AcceptedTable bytes (length table) (trace_of bytes)
  filled = record { accepted = h.accepted; table_holds = h.room }

  room-passes : count ≤ room → races_reading bytes (length table) room ≡ reads (trace_of bytes)
  room-passes l =
      ((races-comes-out bytes (length table) room).passes (trace_of bytes)).1
      (record { filled = filled; list_holds = omega (arith, e) })

  room-refuses : room < count → races_reading bytes (length table) room ≡ refused 16 count
  room-refuses l = ((races-comes-out bytes (length table) room).refuses 16 count).1 short
    where
      short : RefusedRaces bytes (length table) room 16 count
      short = by_this (trace_of bytes) filled (omega (arith, e)) refl e

  pub answer-listed : count ≤ room → Listed p n count ≡ races_answer bytes (length table) room
  answer-listed l = rw (← t.workers, ← t.count, e) (sym (answer-by bytes (length table) room (room-passes l)))

  pub answer-short : room < count → Refused 16 count ≡ races_answer bytes (length table) room
  answer-short l = sym (answer-by bytes (length table) room (room-refuses l))

-- where filling the table refuses
table-refusal : (bytes lent : List ℕ) (room : ℕ) {q k : ℕ} → table_answer bytes lent ≡ Refused q k
    → races_reading bytes (length lent) room ≡ refused q k
table-refusal bytes lent room {q} {k} a =
    let no = ((table-comes-out bytes (length lent)).refuses q k).0 ((table-refused bytes lent q k).0 a) in
    ((races-comes-out bytes (length lent) room).refuses q k).1 (by_earlier no)

module _ (bytes lent : List ℕ) {now : List ℕ} (room : ℕ) (e : now ≡ table_after bytes lent) where
  pub counts-filled : {answer : Result Races Refusal} → answer ≡ races_answer bytes (length now) room
      → CountCall bytes lent room answer now
  counts-filled a = record { answers = rw (e, after-length bytes lent) at a; leaves_table = e }

  pub counts-refused : {q k : ℕ} → table_answer bytes lent ≡ Refused q k
      → CountCall bytes lent room (Refused q k) now
  counts-refused a =
      record {
        answers = sym (answer-by bytes (length lent) room (table-refusal bytes lent room a));
        leaves_table = e;
      }

-- ---- the races that an answer lists

-- all races are listed: the table is filled, `count` is their number, and there is room for them
pub record AllCounted (bytes table : List ℕ) (numbers room count : ℕ) : Type 0 where
  pub holds : HoldsTable bytes table
  pub counts : count ≡ race_count (trace_of bytes)
  pub fits : race_count (trace_of bytes) ≤ room
  pub listed : races_listed bytes numbers room ≡ race_list (trace_of bytes)

module _ {bytes lent now : List ℕ} {room : ℕ} where
  pub counts-length : {answer : Result Races Refusal} → CountCall bytes lent room answer now → length now ≡ length lent
  counts-length c = rw c.leaves_table (after-length bytes lent)

  pub all-counted : {r : Races} → CountCall bytes lent room (Ok r) now
      → AllCounted bytes now (length lent) room r.races
  unfolding races_answer
  all-counted {r} c =
      let (t, e, i) =
      outcome-reads answer_of (refuses-nothing races_of _) (races_reading bytes (length lent) room) (sym c.answers) in
      let passed = ((races-comes-out bytes (length lent) room).passes t).0 e in
      let same = accepted-trace passed.filled.accepted in
      let count = ap (λ (x : Races). x.races) (same-result i) in
      record {
        holds = holds_after bytes lent c.leaves_table passed.filled;
        counts = rw same (sym count);
        fits = rw same passed.list_holds;
        listed = races_listed-by bytes (length lent) room e ∙ rw same;
      }

  pub none-listed : {q : Refusal} → CountCall bytes lent room (Err q) now → races_listed bytes (length lent) room ≡ []
  unfolding races_answer
  none-listed {q} c =
      let refusal =
      (outcome-refused answer_of (tells-refusals races_of) (races_reading bytes (length lent) room) q.number q.place).0
      (sym c.answers) in
      races_listed-by bytes (length lent) room refusal

-- ---- the call's promise

-- the shorter of two lengths is at most each of them
pub shorter-fits : (x y : ℕ) → (shorter x y ≤ x) × (shorter x y ≤ y)
shorter-fits x y = elim (less? y x) [
  | inl l ↦ rw (lt-leb x y l) (omega arith, omega arith)
  | inr l ↦ rw (le-leb x y l) (omega arith, omega arith)
]

pub shorter-min : (x y : ℕ) → min x y ≡ shorter x y
shorter-min x y = elim (less? y x) [
  | inl l ↦ rw (lt-leb x y l) (omega arith)
  | inr l ↦ rw (le-leb x y l) (omega arith)
]

-- more than there is room for, or not
many-none : (count room : ℕ) → too_many count room ≡ None → count ≤ room
many-none count room l = elim (less? room count) [
  | inl i ↦ let e = rw (lt-leb count room i) at l in absurd (zero_one cc)
  | inr i ↦ i
]

many-some : (count room : ℕ) {k : ℕ} → too_many count room ≡ Some k → (room < count) × (count ≡ k)
many-some count room l = elim (less? room count) [
  | inl i ↦ (i, let e = rw (lt-leb count room i) at l in cc)
  | inr i ↦ let e = rw (le-leb count room i) at l in absurd (zero_one cc)
]

module _ {bytes table : List ℕ} {p n : ℕ} (h : HoldsTable bytes table) (t : HoldsTrace bytes p n)
    (lower higher : List ℕ) {room : ℕ} (i : room ≡ shorter (length lower) (length higher)) where
  -- there is room for all
  pub lists-fit : too_many (race_count (trace_of bytes)) room ≡ None
      → (race_count (trace_of bytes) ≤ length lower) × (race_count (trace_of bytes) ≤ length higher)
  lists-fit l =
      let fits = many-none (race_count (trace_of bytes)) room l in
      let short = shorter-fits (length lower) (length higher) in
      (omega (arith, fits, i, short.0), omega (arith, fits, i, short.1))

  pub lists-all : {count : ℕ} {lower-now higher-now : List ℕ} → too_many (race_count (trace_of bytes)) room ≡ None
      → AllWritten (trace_of bytes) count lower lower-now higher higher-now
      → ListsCall bytes (length table) lower higher (Listed p n count) lower-now higher-now
  lists-all {count} l w =
      let fits : count ≤ room = omega (arith, w.counts, many-none (race_count (trace_of bytes)) room l) in
      let listed = races_listed-by bytes (length table) room (room-passes h t room w.counts fits) in
      record {
        answers = rw (← i) (answer-listed h t room w.counts fits);
        lists_lower = rw (← i, listed) w.all_lower;
        lists_higher = rw (← i, listed) w.all_higher;
      }

  pub lists-short : {more : ℕ} → too_many (race_count (trace_of bytes)) room ≡ Some more
      → ListsCall bytes (length table) lower higher (Refused 16 more) lower higher
  lists-short l =
      let (short, same) = many-some (race_count (trace_of bytes)) room l in
      let none = races_listed-by bytes (length table) room (room-refuses h t room refl short) in
      record {
        answers = rw (← i, ← same) (answer-short h t room refl short);
        lists_lower = rw (← i, none);
        lists_higher = rw (← i, none);
      }

module _ (bytes lent : List ℕ) {now : List ℕ} (lower higher : List ℕ) (e : now ≡ table_after bytes lent) where
  pub call-filled : {answer : Result Races Refusal} {lower-now higher-now : List ℕ}
      → ListsCall bytes (length now) lower higher answer lower-now higher-now
      → RacesCall bytes lent lower higher answer now lower-now higher-now
  unfolding lower_after higher_after
  call-filled l =
      let same : length now ≡ length lent = rw e (after-length bytes lent) in
      record {
        answers = rw same at l.answers;
        leaves_table = e;
        leaves_lower = rw same at l.lists_lower;
        leaves_higher = rw same at l.lists_higher;
      }

  pub call-refused : {q k : ℕ} → table_answer bytes lent ≡ Refused q k
      → RacesCall bytes lent lower higher (Refused q k) now lower higher
  unfolding lower_after higher_after
  call-refused {q} {k} a =
      let none = races_listed-by bytes (length lent) (shorter (length lower) (length higher)) refusal in
      record {
        answers = sym (answer-by bytes (length lent) (shorter (length lower) (length higher)) refusal);
        leaves_table = e;
        leaves_lower = rw none;
        leaves_higher = rw none;
      }
    where
      refusal : races_reading bytes (length lent) (shorter (length lower) (length higher)) ≡ refused q k
      refusal = table-refusal bytes lent (shorter (length lower) (length higher)) a

-- ---- what the answer says

module _ (bytes : List ℕ) (numbers room : ℕ) where
  pub races-refused : (q k : ℕ)
      → (races_answer bytes numbers room ≡ Refused q k) ↔ (races_reading bytes numbers room ≡ refused q k)
  unfolding races_answer
  races-refused q k = outcome-refused answer_of (tells-refusals races_of) (races_reading bytes numbers room) q k

  -- the table and the list are long enough, and the count is that of the races
  pub races-listed : {t : Trace} → AcceptedTrace bytes t → (count : ℕ)
      → (races_answer bytes numbers room ≡ Listed t.workers (size t) count)
      ↔ (AcceptedRaces bytes numbers room t × (count ≡ race_count t))
  unfolding races_answer
  races-listed {t} h count =
      Iff.trans
      (outcome-passes answer_of (λ q k z. zero_one cc) (races-comes-out bytes numbers room)
      (λ u p. accepted-same p.filled.accepted h)) (
        λ p. (p.0, sym (ap (λ (x : Races). x.races) (same-result p.1))),
        λ p. (p.0, rw p.1),
      )

  -- where the table is long enough: the list is too short, and the place is the number of races
  pub races-short : {t : Trace} → AcceptedTable bytes numbers t → (k : ℕ)
      → (races_answer bytes numbers room ≡ Refused 16 k) ↔ ((room < race_count t) × (k ≡ race_count t))
  races-short f k =
      Iff.trans (races-refused 16 k)
      (Iff.trans ((races-comes-out bytes numbers room).refuses 16 k) (refused-short f k))
