-- Filling the table. In order: the start of a walk that is kept along worker q; worker after worker, whose start no
-- answer cites, since the check finds it alone.
use mathlib.Core.List.{List, []}
use mathlib.Core.Logic.{◌⊎◌, inl, inr, ◌≢◌}
use mathlib.Core.Path.{◌≡◌, refl, sym, ◌∙◌}
use native.Mathlib.Omega.{arith}
use Prim.Native.Nat.{ℕ, ◌+◌, ◌*◌, ◌<◌, ◌≤◌}
use lib.ListN.{length, get_or, set, replicate}
use Rattle.basics.proofs.Bits.{zeros}
use Rattle.basics.proofs.Booleans.{equal?}
use Rattle.trace.specs.Premises.{HoldsTrace}
use Rattle.trace.specs.Reading.{trace_of}
use Rattle.trace.specs.Trace.{Trace, size}
use Rattle.masks.specs.Masks.{◌is_in◌, Below, Without}
use Rattle.masks.proofs.Sets.{in-none}
use Rattle.index.specs.Indexed.{Indexed}
use Rattle.index.specs.Steps.{operation_at}
use Rattle.index.proofs.Lookups.{holds-places, parts-begin, parts-end}
use Rattle.index.proofs.Operations.{at-rth}
use Rattle.states.specs.States.{next_of}
use Rattle.states.proofs.Runs.{ends-start}
use Rattle.walk.specs.Going.{Stopped, at_left_out, Awake, Going}
use Rattle.courses.specs.Courses.{Begun, Unstarted, Courses}
use Rattle.courses.proofs.Cutting.{follows-other, apart_other}
use Rattle.courses.proofs.Starting.{start-sized, courses-whole}
use Rattle.lent.specs.Written.{written_over}
use Rattle.table_rows.specs.Filling.{RowsTo}
use Rattle.table_rows.specs.Rows.{order_table}
use Rattle.table_rows.proofs.Keeping.{KeptAt, KeptFilling, kept-filling, Known}
use Rattle.table_rows.proofs.Stretch.{none-own}
use Rattle.table_rows.proofs.Rows.{rows_all}

-- ---- the start

module _ {bytes : List ℕ} {p n : ℕ} {order starts list ends before : List ℕ}
    (x : Known bytes p n order starts list ends before) {q : ℕ} (hq : q < p) {firsts lasts : List ℕ}
    (begun : Begun starts firsts lasts 16) where
  abbrev t : Trace
  t = trace_of bytes

  abbrev a : ℕ
  a = operation_at (trace_of bytes) q 0

  lists : Courses (trace_of bytes) (size (trace_of bytes)) starts list ends lasts
  lists = courses-whole x.handed.listed begun

  going-first : {all ready : ℕ} → Below p all → Without all q ready → a < size t
      → Going t a q [] list ends lasts firsts (replicate 16 0) (replicate 4 0) (replicate 256 0) ready
  going-first {all} {ready} every w l =
      record {
        run = ends-start t a;
        follows = λ v h d. rw (zeros 16 v, (begun.each v h).0)
            (follows-other t (size t) a v (apart_other t v a (λ e. d (sym e ∙ (at-rth t q 0 l).own))) (λ e. e)
            (lists.each v h));
        awake = awake;
        stands = λ v h. stands v h (equal? v q);
      }
    where
      awake : (v : ℕ) → Awake (replicate 256 0) ready v → (v < t.workers) × (v ≢ q)
      awake v (inl i) = let (h, d) = (w.each v).0 i in (rw x.holds.workers (every.only v h), d)
      awake v (inr (e, i)) = absurd (in-none (rw (zeros 256 e) at i))

      stands : (v : ℕ) → v < t.workers → (v ≡ q) ⊎ (v ≢ q)
          → (v is_in ready) ⊎ Stopped t a (replicate 4 0) (replicate 256 0) v (next_of t (replicate 16 0) v)
      stands v h (inl e) = inr (at_left_out (rw (e, zeros 16 q) refl))
      stands v h (inr d) = inl ((w.each v).1 (every.all v (rw x.holds.workers at h), d))

  pub kept-start : {all ready : ℕ} → Below p all → Without all q ready
      → KeptAt (trace_of bytes) starts list ends lasts q 0 (get_or starts q 0) firsts (replicate 16 0) (replicate 4 0)
      (replicate 256 0) ready before before
  kept-start every w =
      let listed = x.handed.listed in
      record {
        sized = start-sized (λ r l. ((listed.follows r l).up_to_end, listed.few r l)) begun;
        upto = omega arith;
        own-list = lists.each q (omega (arith, hq, x.holds.most));
        going = λ l. ([], going-first every w l);
        same_length = refl;
        rows = λ old r. let e : get_or starts q 0 + 0 ≡ get_or starts q 0 = omega arith in rw e r;
      }

  -- the same of the arrays that a walk begins with
  pub kept-begun : {counts events waiting : List ℕ} → Unstarted counts events waiting → {all ready : ℕ} → Below p all
      → Without all q ready
      → KeptFilling (trace_of bytes) starts list ends lasts q 0 (get_or starts q 0) firsts (set counts q 0) events
      waiting ready before before
  kept-begun u every w =
      rw (u.undone, u.unposted, u.unawaited, none-own q) (kept-filling x hq begun (kept-start every w))

-- ---- worker after worker

module _ {bytes : List ℕ} {p n : ℕ} (h : HoldsTrace bytes p n) {order starts : List ℕ}
    (i : Indexed (trace_of bytes) order starts) where
  pub workers-start : (old : List ℕ) → RowsTo (trace_of bytes) starts (get_or starts 0 0) old old
  workers-start old =
      record {
        same_length = refl;
        rows = λ k q l m j. absurd (omega (arith, m, parts-begin (holds-places h i)));
        past = λ j l. refl;
      }

  pub workers-all : {q : ℕ} {old now : List ℕ} → RowsTo (trace_of bytes) starts (get_or starts q 0) old now → q ≡ p
      → n * p ≤ length old → now ≡ written_over (order_table (trace_of bytes)) old
  workers-all {q} r e room =
      rows_all (holds-places h i) r (rw (e, ← h.workers) (parts-end (holds-places h i)))
      (rw (h.count, h.workers) room)
