-- One worker's way along its list. In order: at the start; on by a step; with a worker freed that goes first; at an
-- event that is not posted; at the end, which no answer cites, since the check finds it alone.
use mathlib.Core.Bool.{Bool, true, false, not, ◌&&◌}
use mathlib.Core.List.{List}
use mathlib.Core.Logic.{inl, inr}
use mathlib.Core.Path.{◌≡◌, refl, ◌∙◌}
use native.Mathlib.Omega.{arith}
use Prim.Native.Nat.{ℕ, ◌+◌, ◌%◌, ◌<◌, ◌≤◌}
use lib.Bits.{bit_or}
use lib.ListN.{length, get_or, set}
use borrow.Author.Tests.{eq-eqb}
use Rattle.basics.proofs.Booleans.{zero_one}
use Rattle.trace.specs.Trace.{Trace}
use Rattle.events.specs.Events.{is_posted, with_post}
use Rattle.masks.specs.Masks.{With, Apart}
use Rattle.masks.proofs.Sets.{in_either}
use Rattle.index.specs.Steps.{operation_at, ahead, holds, event, reached, Follows}
use Rattle.index.proofs.Covering.{reached-in, reached-end, between_none, ends-cases}
use Rattle.states.specs.States.{EndsRun, Blocked, next_of}
use Rattle.walk.specs.Going.{Stopped, at_end, at_left_out, at_event, Entered, Moved, LowerStopped, LowestStretch}
use Rattle.walk.specs.Going.{Along, Went}
use Rattle.walk.proofs.Releasing.{released-none, released-step, released-enter, entered, released-own, still}
use Rattle.walk.proofs.Releasing.{stopped-blocked}
use Rattle.walk.proofs.Stretches.{step-posted, step-free, gone-none, lowest-none, gone-more, lowest-more}
use Rattle.walk.proofs.Stretches.{gone-plain, lowest-plain}

-- where a worker stands behind the operations before entry `at`, its list goes on from there
follows-here : {t : Trace} {a : ℕ} {list : List ℕ} {q from end last i at : ℕ} → Follows t a list q from end last i
    → from ≤ at → at ≤ end → Follows t a list q at end last (reached list end last at)
follows-here {t} {a} {list} {q} {end = end} {last = last} {at = at} x h l =
    record {
      up_to_end = l;
      first = between_none t a q (reached list end last at);
      each = λ s i j. x.each s (omega arith) j;
      ending = x.ending;
    }

module _ {list : List ℕ} {q below from end last : ℕ} (low : q < 16) where
  -- ---- at the start

  pub along-start : {events waiting : List ℕ} → from ≤ end → length events ≡ 4 → length waiting ≡ 256
      → Along list q below from end last events waiting events waiting from (reached list end last from) 0
  along-start {events} {waiting} h k l =
      record {
        from_on = omega arith;
        up_to_end = h;
        none = λ e. refl;
        released = released-none k l;
        moved = λ t a r counts x go. record {
          run = gone-plain t a q low r counts k (omega arith) go.first (gone-none t a q low r counts x);
          follows = follows-here go (omega arith) h;
          on = go.first.on;
        };
        lowest = λ t a r counts x go y. lowest-plain t a q low r counts k (omega arith) go.first
            (gone-none t a q low r counts x) (λ p i. stopped-blocked (y.stopped p i)) (lowest-none t a q low r counts);
      }

  module _ {events waiting events' waiting' : List ℕ} {at freed : ℕ}
      (x : Along list q below from end last events waiting events' waiting' at (reached list end last at) freed)
      (h : at < end) where
    abbrev here : ℕ
    here = get_or list at 0

    same : reached list end last at ≡ ahead (get_or list at 0)
    same = reached-in list last h

    -- ---- on by a step

    module _ (clear : Apart freed below)
        (free : (holds (get_or list at 0) && not (is_posted events' (event (get_or list at 0)))) ≡ false) where
      -- the workers that go first are still blocked
      blocked : {t : Trace} {a : ℕ} {counts : List ℕ} → LowerStopped t a q below counts events waiting
          → (p : ℕ) → p < q → Blocked t a events' (next_of t counts p)
      blocked y p l = elim (still x.released (y.stopped p l)) [
        | inl i ↦ absurd (clear.none p i (y.first p l))
        | inr s ↦ stopped-blocked s
      ]

      -- with the operation of the entry, and no more
      pub along_one : Along list q below from end last events waiting (with_post events' (event (get_or list at 0)))
          (set waiting' (event (get_or list at 0)) 0) (at + 1) ((ahead (get_or list at 0) + 1) % 65536)
          (bit_or freed (get_or waiting' (event (get_or list at 0)) 0))
      along_one =
          record {
            from_on = omega (arith, x.from_on);
            up_to_end = omega arith;
            none = λ e. absurd (omega (arith, e, x.from_on));
            released = released-step x.released (omega arith);
            moved = moved;
            lowest = lowest;
          }
        where
          moved : (t : Trace) (a : ℕ) (r counts : List ℕ) → EndsRun t a r counts events
              → Follows t a list q from end last (get_or counts q 0)
              → Moved t a list q end last r counts (with_post events' (event (get_or list at 0))) (at + 1)
              ((ahead (get_or list at 0) + 1) % 65536)
          moved t a r counts e go =
              let m = rw same at (x.moved t a r counts e go) in
              let s = go.each at x.from_on h in
              let fits : (ahead (get_or list at 0) + 1) % 65536 ≡ ahead (get_or list at 0) + 1 = omega (arith, s.few) in
              rw fits (record {
                run = gone-more t a q low r counts m.on m.run s.below s.other
                    (step-free s.tells events' free)
                    (step-posted s.tells events' x.released.words free);
                follows = record {
                  up_to_end = omega arith;
                  first = s.next;
                  each = λ j i k. go.each j (omega (arith, i, x.from_on)) k;
                  ending = go.ending;
                };
                on = omega (arith, m.on);
              })

          lowest : (t : Trace) (a : ℕ) (r counts : List ℕ) → EndsRun t a r counts events
              → Follows t a list q from end last (get_or counts q 0) → LowerStopped t a q below counts events waiting
              → LowestStretch t a q r counts ((ahead (get_or list at 0) + 1) % 65536)
          lowest t a r counts e go y =
              let m = rw same at (x.moved t a r counts e go) in
              let s = go.each at x.from_on h in
              let fits : (ahead (get_or list at 0) + 1) % 65536 ≡ ahead (get_or list at 0) + 1 = omega (arith, s.few) in
              rw fits
              (lowest-more t a q low r counts m.on m.run s.below s.other (step-free s.tells events' free)
              (blocked y) (rw same at (x.lowest t a r counts e go y)))

      -- and those up to the next entry, where no worker is freed that goes first
      pub along-step : Apart (get_or waiting' (event (get_or list at 0)) 0) below
          → Along list q below from end last events waiting (with_post events' (event (get_or list at 0)))
          (set waiting' (event (get_or list at 0)) 0) (at + 1) (reached list end last (at + 1))
          (bit_or freed (get_or waiting' (event (get_or list at 0)) 0))
          × Apart (bit_or freed (get_or waiting' (event (get_or list at 0)) 0)) below
      along-step more = (
        record {
          from_on = along_one.from_on;
          up_to_end = along_one.up_to_end;
          none = along_one.none;
          released = along_one.released;
          moved = λ t a r counts e go.
              let m = along_one.moved t a r counts e go in
              record {
                run = gone-plain t a q low r counts along_one.released.words m.on m.follows.first m.run;
                follows = follows-here m.follows (omega arith) (omega arith);
                on = omega (arith, m.on, m.follows.first.on);
              };
          lowest = λ t a r counts e go y.
              let m = along_one.moved t a r counts e go in
              lowest-plain t a q low r counts along_one.released.words m.on m.follows.first m.run
              (after y)
              (along_one.lowest t a r counts e go y);
        },
        apart,
      )
        where
          apart : Apart (bit_or freed (get_or waiting' (event (get_or list at 0)) 0)) below
          apart = record {
            none = λ p i j. elim (in_either freed (get_or waiting' (event (get_or list at 0)) 0) i) [
              | inl k ↦ clear.none p k j
              | inr k ↦ more.none p k j
            ];
          }

          after : {t : Trace} {a : ℕ} {counts : List ℕ} → LowerStopped t a q below counts events waiting
              → (p : ℕ) → p < q → Blocked t a (with_post events' (event (get_or list at 0))) (next_of t counts p)
          after y p l = elim (still along_one.released (y.stopped p l)) [
            | inl i ↦ absurd (apart.none p i (y.first p l))
            | inr s ↦ stopped-blocked s
          ]

      -- ---- a worker is freed that goes first

      pub along-yield : {freed' : ℕ} → With (bit_or freed (get_or waiting' (event (get_or list at 0)) 0)) q freed'
          → Went list q below from end last events waiting (with_post events' (event (get_or list at 0)))
          (set waiting' (event (get_or list at 0)) 0) (at + 1) ((ahead (get_or list at 0) + 1) % 65536) freed'
      along-yield w =
          record {
            along = record {
              from_on = along_one.from_on;
              up_to_end = along_one.up_to_end;
              none = λ e. absurd (omega (arith, e, x.from_on));
              released = released-own along_one.released w;
              moved = along_one.moved;
              lowest = along_one.lowest;
            };
            stopped = λ t a go. inl ((w.each q).1 (inr refl));
          }

    -- ---- at an event that is not posted

    pub along-wait : {waiting'' : List ℕ}
        → (holds (get_or list at 0) && not (is_posted events' (event (get_or list at 0)))) ≡ true
        → Entered q (event (get_or list at 0)) waiting' waiting''
        → Went list q below from end last events waiting events' waiting'' at (ahead (get_or list at 0)) freed
    along-wait {waiting''} held y =
        record {
          along = record {
            from_on = x.from_on;
            up_to_end = x.up_to_end;
            none = x.none;
            released = released-enter x.released (omega arith) y;
            moved = rw same at x.moved;
            lowest = rw same at x.lowest;
          };
          stopped = λ t a go. inr (stopped t a go);
        }
      where
        e : ℕ
        e = event (get_or list at 0)

        tests : (b p : Bool) → (b && not p) ≡ true → (b ≡ true) × (p ≡ false)
        tests true true i = absurd (zero_one cc)
        tests true false i = (refl, refl)
        tests false p i = absurd (zero_one cc)

        stopped : (t : Trace) (a : ℕ) → Follows t a list q at end last (ahead (get_or list at 0))
            → Stopped t a events' waiting'' q (operation_at t q (ahead (get_or list at 0)))
        stopped t a go =
            let (need, none) = tests (holds (get_or list at 0)) (is_posted events' e) held in
            let s = go.each at (omega arith) h in
            at_event e (omega arith) (s.tells.needed e ∙ rw (need, eq-eqb e e refl)) none
            (entered x.released (omega arith) y)

  -- ---- at the end

  pub along-end : {events waiting events' waiting' : List ℕ} {at freed : ℕ}
      → Along list q below from end last events waiting events' waiting' at (reached list end last at) freed → end ≤ at
      → Went list q below from end last events waiting events' waiting' at last freed
  along-end {events} {waiting} {events'} {waiting'} {at} {freed} x h =
      record { along = rw (reached-end list last h) at x; stopped = λ t a go. inr (stopped t a go) }
    where
      stopped : (t : Trace) (a : ℕ) → Follows t a list q at end last last
          → Stopped t a events' waiting' q (operation_at t q last)
      stopped t a go = elim (ends-cases go.ending) [ inl e ↦ at_end e | inr e ↦ at_left_out e ]
