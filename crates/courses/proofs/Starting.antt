-- The start of a walk. In order: what the code needs; nothing done; each worker's list, whole and cut; an operation
-- that was left out is let in.
use mathlib.Core.List.{List, []}
use mathlib.Core.Logic.{◌⊎◌, inl, inr, ◌≢◌}
use mathlib.Core.Path.{◌≡◌, sym, ◌∙◌}
use native.Mathlib.Omega.{arith}
use Prim.Native.Nat.{ℕ, ◌+◌, ◌-◌, ◌<◌, ◌≤◌}
use lib.ListN.{length, get_or, set, replicate, length-set}
use lib.Seq.{get_or-set_same, get_or-set_other}
use Rattle.basics.proofs.Bits.{zeros}
use Rattle.basics.proofs.Booleans.{equal?}
use Rattle.trace.specs.Premises.{Fits}
use Rattle.trace.specs.Trace.{Trace, size, worker_of}
use Rattle.masks.specs.Masks.{◌is_in◌, Below, With}
use Rattle.masks.proofs.Sets.{in-none}
use Rattle.index.specs.Steps.{operation_at, Follows, Listed}
use Rattle.index.proofs.Operations.{own_at}
use Rattle.states.specs.States.{next_of}
use Rattle.states.proofs.Runs.{ends-start, ends-whole}
use Rattle.walk.specs.Going.{Stopped, at_end, at_left_out, at_event, Awake, Going, Sized}
use Rattle.courses.specs.Courses.{Opens, Begun, Unstarted, Courses, BegunWithout, LeftOut}
use Rattle.courses.proofs.Cutting.{follows-other, apart_other, ends-other, cut-own, cut-whole}

-- ---- what the code needs

pub listed-opens : {t : Trace} {starts list ends : List ℕ} → Listed t starts list ends
    → ((q : ℕ) → q < 16 → get_or starts q 0 ≤ get_or starts (q + 1) 0) → Opens starts ends
listed-opens x up = record { each = λ q l. ((x.follows q l).up_to_end, x.few q l, up q l) }

pub start-sized : {starts ends nexts lasts : List ℕ}
    → ((q : ℕ) → q < 16 → (get_or starts q 0 ≤ get_or ends q 0) × (get_or ends q 0 ≤ 1024)) → Begun starts nexts lasts 16
    → Sized ends nexts
start-sized o x =
    record { each = λ q l. let e = o q l in (omega (arith, (x.each q l).0, e.0), e.1) }

module _ {starts list ends nexts stops lasts : List ℕ} {q prior : ℕ}
    (y : BegunWithout starts list ends q prior nexts stops lasts) where
  -- worker q's end and count, where its list is cut
  stop-own : get_or stops q 0 ≡ y.at
  stop-own = rw y.ends_cut (get_or-set_same ends q y.at 0 (omega (arith, y.low, y.room)))

  count-own : get_or lasts q 0 ≡ prior
  count-own = rw y.counts_cut (get_or-set_same y.whole q prior 0 (omega (arith, y.low, y.begun.counts)))

  stop-room : q < length stops
  stop-room = rw y.ends_cut (omega (arith, y.low, y.room, length-set ends q y.at))

  count_room : q < length lasts
  count_room = rw y.counts_cut (omega (arith, y.low, y.begun.counts, length-set y.whole q prior))

  -- the lists that are left lie inside too
  pub without-sized : Sized stops nexts
  without-sized = start-sized (λ r l. rw y.ends_cut (each r l (equal? r q))) y.begun
    where
      each : (r : ℕ) → r < 16 → (r ≡ q) ⊎ (r ≢ q)
          → (get_or starts r 0 ≤ get_or (set ends q y.at) r 0) × (get_or (set ends q y.at) r 0 ≤ 1024)
      each r l (inl e) =
          rw (e, get_or-set_same ends q y.at 0 (omega (arith, y.low, y.room)))
          (y.entry.from_on, omega (arith, y.entry.up_to_end, (y.opens.each q y.low).1))
      each r l (inr n) = let e = y.opens.each r l in rw (get_or-set_other ends q r y.at 0 n) (e.0, e.1)

  -- and those that are whole again
  pub let-in-sized : {nexts' stops' : List ℕ} → Sized stops nexts' → stops' ≡ set stops q (get_or ends q 0)
      → Sized stops' nexts'
  let-in-sized {nexts'} s i = record { each = λ r l. rw i (each r l (equal? r q)) }
    where
      each : (r : ℕ) → r < 16 → (r ≡ q) ⊎ (r ≢ q)
          → (get_or nexts' r 0 ≤ get_or (set stops q (get_or ends q 0)) r 0)
          × (get_or (set stops q (get_or ends q 0)) r 0 ≤ 1024)
      each r l (inl e) =
          rw (e, get_or-set_same stops q (get_or ends q 0) 0 stop-room)
          (omega (arith, (s.each q y.low).0, stop-own, y.entry.up_to_end), (y.opens.each q y.low).1)
      each r l (inr n) = rw (get_or-set_other stops q r (get_or ends q 0) 0 n) (s.each r l)

-- ---- nothing done

pub going_start : {t : Trace} → Fits t → {a : ℕ} {starts list ends lasts nexts counts events waiting : List ℕ}
    → {ready : ℕ} → Courses t a starts list ends lasts → ((q : ℕ) → q < 16 → get_or nexts q 0 ≡ get_or starts q 0)
    → Unstarted counts events waiting → Below t.workers ready
    → Going t a 16 [] list ends lasts nexts counts events waiting ready
going_start {t} f {a} {ready = ready} x firsts u all =
    rw (u.undone, u.unposted, u.unawaited) (record {
      run = ends-start t a;
      follows = λ q l o. rw (zeros 16 q, firsts q l) (x.each q l);
      awake = awake;
      stands = λ q l. inl (all.all q l);
    })
  where
    awake : (q : ℕ) → Awake (replicate 256 0) ready q → (q < t.workers) × (q ≢ 16)
    awake q (inl i) = (all.only q i, λ z. omega (arith, z, all.only q i, f.most))
    awake q (inr (e, i)) = absurd (in-none (rw (zeros 256 e) at i))

-- ---- each worker's list

pub courses-whole : {t : Trace} {starts list ends nexts lasts : List ℕ} → Listed t starts list ends
    → Begun starts nexts lasts 16 → Courses t (size t) starts list ends lasts
courses-whole x b = record { each = λ q l. rw (b.each q l).1 (x.follows q l) }

module _ {t : Trace} {p : ℕ} {starts list ends : List ℕ} {q prior a : ℕ} (x : LeftOut t p starts list ends q prior a)
    {nexts stops lasts : List ℕ} (y : BegunWithout starts list ends q prior nexts stops lasts) where
  whole : Courses t (size t) starts list ends y.whole
  whole = courses-whole x.listed y.begun

  own-here : operation_at t q prior ≡ a
  own-here = rw (x.ahead, x.own) at (own_at t a x.below)

  others : (r : ℕ) → r ≢ q → worker_of t a ≢ r
  others r n e = n (sym e ∙ x.own)

  courses-cut : Courses t a starts list stops lasts
  courses-cut = record { each = λ r l. each r l (equal? r q) }
    where
      each : (r : ℕ) → r < 16 → (r ≡ q) ⊎ (r ≢ q)
          → Follows t a list r (get_or starts r 0) (get_or stops r 0) (get_or lasts r 0) 0
      each r l (inl e) =
          rw (e, stop-own y, count-own y) (cut-own (whole.each q y.low) own-here x.below y.entry)
      each r l (inr n) =
          rw (y.ends_cut, y.counts_cut, get_or-set_other ends q r y.at 0 n, get_or-set_other y.whole q r prior 0 n)
          (follows-other t (size t) a r (apart_other t r a (others r n)) (λ e. e) (whole.each r l))

  pub going-without : {counts events waiting : List ℕ} {ready : ℕ} → Unstarted counts events waiting → Below p ready
      → Going t a 16 [] list stops lasts nexts counts events waiting ready
  going-without u all =
      going_start x.fits courses-cut (λ r l. (y.begun.each r l).0) u (rw (← x.workers) at all)

  -- ---- a is let in: its worker's list is whole again

  module _ {r counts events waiting nexts' stops' lasts' : List ℕ} {ready : ℕ}
      (g : Going t a 16 r list stops lasts nexts' counts events waiting 0)
      (i : (stops' ≡ set stops q (get_or ends q 0)) × (lasts' ≡ set lasts q (get_or starts (q + 1) 0 - get_or starts q 0)))
      (w : With 0 q ready) where
    pub going-let-in : Going t (size t) 16 r list stops' lasts' nexts' counts events waiting ready
    going-let-in =
        record {
          run = ends-whole g.run;
          follows = λ v l o. rw (i.0, i.1) (follows v l (equal? v q));
          awake = λ v i. awake v i;
          stands = λ v l. stands v l (equal? v q);
        }
      where
        follows : (v : ℕ) → v < 16 → (v ≡ q) ⊎ (v ≢ q)
            → Follows t (size t) list v (get_or nexts' v 0) (get_or (set stops q (get_or ends q 0)) v 0)
            (get_or (set lasts q (get_or starts (q + 1) 0 - get_or starts q 0)) v 0) (get_or counts v 0)
        follows v l (inl e) =
            let old = rw (stop-own y, count-own y) at (g.follows q y.low (λ z. omega (arith, z, y.low))) in
            let stop = get_or-set_same stops q (get_or ends q 0) 0 (stop-room y) in
            let last = get_or-set_same lasts q _ 0 (count_room y) ∙ sym (y.begun.each q y.low).1 in
            rw (e, stop, last)
            (cut-whole (whole.each q y.low) own-here x.below y.entry old)
        follows v l (inr n) =
            rw (get_or-set_other stops q v (get_or ends q 0) 0 n, get_or-set_other lasts q v _ 0 n)
            (follows-other t a (size t) v (λ j i z. omega (arith, i, z))
            (ends-other t v a (others v n) (get_or lasts v 0))
            (g.follows v l (λ z. omega (arith, z, l))))

        awake : (v : ℕ) → Awake waiting ready v → (v < t.workers) × (v ≢ 16)
        awake v (inl i) = elim ((w.each v).0 i) [
          | inl j ↦ absurd (in-none j)
          | inr e ↦ (rw (e, ← x.own) (x.fits.each a x.below).worker, λ z. omega (arith, z, e, y.low))
        ]
        awake v (inr i) = g.awake v (inr i)

        stands : (v : ℕ) → v < t.workers → (v ≡ q) ⊎ (v ≢ q)
            → (v is_in ready) ⊎ Stopped t (size t) events waiting v (next_of t counts v)
        stands v l (inl e) = inl ((w.each v).1 (inr e))
        stands v l (inr n) = go (g.stands v l)
          where
            go : (v is_in 0) ⊎ Stopped t a events waiting v (next_of t counts v)
                → (v is_in ready) ⊎ Stopped t (size t) events waiting v (next_of t counts v)
            go (inl i) = absurd (in-none i)
            go (inr (at_end e)) = inr (at_end e)
            go (inr (at_left_out e)) = inr (at_end (ends-other t v a (others v n) (get_or counts v 0) e))
            go (inr (at_event e h need none i)) = inr (at_event e h need none i)
