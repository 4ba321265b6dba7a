-- The steps of a worker along which the walk is kept. In order: rows one behind the other; plain operations; at the
-- start; a step; one that frees nobody; one that frees somebody; the end.
use mathlib.Core.List.{List, [], ◌∷◌, ◌++◌}
use mathlib.Core.Logic.{◌⊎◌, inl, inr, ◌≢◌}
use mathlib.Core.Path.{◌≡◌}
use native.Mathlib.Omega.{arith}
use Prim.Native.Nat.{ℕ, ◌+◌, ◌<◌, ◌≤◌}
use lib.ListN.{get_or, set, take}
use lib.Seq.{set-set}
use Rattle.basics.proofs.Booleans.{equal?, less?}
use Rattle.trace.specs.Trace.{Trace, size}
use Rattle.events.specs.Events.{with_post}
use Rattle.model.specs.Computed.{row}
use Rattle.index.specs.Steps.{operation_at, ahead, event, Between, reached, Step, Follows}
use Rattle.index.proofs.Covering.{reached-in, reached-end, between_none}
use Rattle.index.proofs.Operations.{at-rth, at_some, at_count}
use Rattle.states.proofs.Answers.{exhausted-row}
use Rattle.walk.specs.Going.{Going}
use Rattle.walk.proofs.Turns.{going-exhausted}
use Rattle.table_rows.specs.Filling.{RowsOf}
use Rattle.table_rows.specs.Passing.{Own, OwnTo, OwnPassed}
use Rattle.table_rows.proofs.Own.{own-step, own-stretch}

module _ {t : Trace} {list ends lasts nexts counts : List ℕ} {q own i : ℕ} {events waiting : List ℕ}
    (x : Own t list ends lasts nexts counts q own i events waiting) where
  abbrev end : ℕ
  end = get_or ends q 0

  abbrev last : ℕ
  last = get_or lasts q 0

  inside : (m : ℕ) → m < get_or lasts q 0 → operation_at t q m < size t
  inside m l = (at_some t q m (omega (arith, x.all, l))).below

  -- ---- plain operations: with m done, from those with i' done on

  module _ {i' j : ℕ} {events' waiting' r : List ℕ} (b : Between t (size t) q i' j)
      (g : Going t (operation_at t q i') q r list ends lasts nexts (set counts q i') events' waiting' 0) where
    plain-going : (m : ℕ) → i' ≤ m → m ≤ j → operation_at t q m < size t → (s : List ℕ)
        × Going t (operation_at t q m) q s list ends lasts nexts (set counts q m) events' waiting' 0
    plain-going m h k l =
        rw (set-set counts q i' m) at (own-stretch x.fits g x.complete b m h k l)

    plain_row : (m : ℕ) → i' ≤ m → m ≤ j → operation_at t q m < size t
        → take t.workers (set counts q m) ≡ row t (operation_at t q m)
    plain_row m h k l =
        let (s, on) = plain-going m h k l in
        exhausted-row x.fits (going-exhausted x.fits on)

  -- ---- at the start

  pub own-start : OwnTo t list ends lasts nexts counts q i own events waiting
  own-start =
      record {
        upto = x.follows.first.on;
        most = most;
        follows = record {
          up_to_end = x.follows.up_to_end;
          first = between_none t (size t) q (reached list end last own);
          each = x.follows.each;
          ending = x.follows.ending;
        };
        rows = record {
          inside = λ m h k. inside m (omega (arith, k, most));
          each = λ m h k. plain_row x.follows.first x.going m h (omega arith)
              (inside m (omega (arith, k, most)));
        };
        going = λ l. plain-going x.follows.first x.going (reached list end last own) x.follows.first.on
            (omega arith) l;
      }
    where
      most : reached list (get_or ends q 0) (get_or lasts q 0) own ≤ get_or lasts q 0
      most = elim (less? own end) [
        | inl h ↦
            let below = at_count t q _ (x.follows.each own (omega arith) h).below in
            rw (reached-in list last h) (omega (arith, below, x.all))
        | inr h ↦ rw (reached-end list last h) (omega arith)
      ]

  -- ---- a step

  module _ {at : ℕ} {events' waiting' : List ℕ}
      (y : OwnTo t list ends lasts nexts counts q i at events' waiting') (h : at < get_or ends q 0) where
    abbrev m : ℕ
    m = ahead (get_or list at 0)

    here : reached list (get_or ends q 0) (get_or lasts q 0) at ≡ ahead (get_or list at 0)
    here = reached-in list last h

    step : Step t (size t) list q (get_or ends q 0) (get_or lasts q 0) at
    step = y.follows.each at (omega arith) h

    step-few : ahead (get_or list at 0) < get_or lasts q 0
    step-few = omega (arith, at_count t q _ step.below, x.all)

    step-going : (r : List ℕ) × Going t (operation_at t q (ahead (get_or list at 0))) q r list ends lasts nexts
        (set counts q (ahead (get_or list at 0))) events' waiting' 0
    step-going = rw here at y.going step.below

    step-rows : RowsOf t q i (ahead (get_or list at 0) + 1) counts
    step-rows =
        record {
          inside = λ v a b. inside v (omega (arith, b, step-few));
          each = λ v a b. each v a b (equal? v m);
        }
      where
        each : (v : ℕ) → i ≤ v → v < m + 1 → (v ≡ m) ⊎ (v ≢ m)
            → take t.workers (set counts q v) ≡ row t (operation_at t q v)
        each v a b (inl e) = rw e (exhausted-row x.fits (going-exhausted x.fits step-going.1))
        each v a b (inr n) = (rw here at y.rows).each v a (omega (arith, b, n))

    step-on : i ≤ ahead (get_or list at 0)
    step-on = rw here at y.upto

    step-next : operation_at t q (ahead (get_or list at 0) + 1) < size t → (r : List ℕ)
        × Going t (operation_at t q (ahead (get_or list at 0) + 1)) q r list ends lasts nexts
        (set counts q (ahead (get_or list at 0) + 1)) (with_post events' (event (get_or list at 0)))
        (set waiting' (event (get_or list at 0)) 0) (get_or waiting' (event (get_or list at 0)) 0)
    step-next l =
        let (r, g) = step-going in
        let more = own-step x.fits g (at-rth t q m step.below) x.complete (at-rth t q (m + 1) l)
        step.tells in
        (r ++ operation_at t q m ∷ [], rw (set-set counts q m (m + 1)) at more)

    step_follows : Follows t (size t) list q (at + 1) (get_or ends q 0) (get_or lasts q 0) (ahead (get_or list at 0) + 1)
    step_follows =
        record {
          up_to_end = omega (arith, h);
          first = step.next;
          each = λ s f g. y.follows.each s (omega (arith, f)) g;
          ending = y.follows.ending;
        }

    -- ---- that frees nobody

    pub own-next : get_or waiting' (event (get_or list at 0)) 0 ≡ 0
        → OwnTo t list ends lasts nexts counts q i (at + 1) (with_post events' (event (get_or list at 0)))
        (set waiting' (event (get_or list at 0)) 0)
    own-next none =
        record {
          upto = omega (arith, step-on, step.next.on);
          most = most;
          follows = record {
            up_to_end = omega (arith, h);
            first = between_none t (size t) q (reached list end last (at + 1));
            each = step_follows.each;
            ending = step_follows.ending;
          };
          rows = record {
            inside = λ v a b. inside v (omega (arith, b, most));
            each = λ v a b. each v a b (less? v (m + 1));
          };
          going = λ l. going l (less? (m + 1) last);
        }
      where
        most : reached list (get_or ends q 0) (get_or lasts q 0) (at + 1) ≤ get_or lasts q 0
        most = elim (less? (at + 1) end) [
          | inl k ↦
              let below = at_count t q _ (y.follows.each (at + 1) (omega arith) k).below in
              rw (reached-in list {end = end} last {s = at + 1} k) (omega (arith, below, x.all))
          | inr k ↦ rw (reached-end list {end = end} last {s = at + 1} k) (omega arith)
        ]

        next : operation_at t q (m + 1) < size t → (r : List ℕ)
            × Going t (operation_at t q (m + 1)) q r list ends lasts nexts (set counts q (m + 1))
            (with_post events' (event (get_or list at 0))) (set waiting' (event (get_or list at 0)) 0) 0
        next l = rw none at (step-next l)

        each : (v : ℕ) → i ≤ v → v < reached list end last (at + 1) → (v < m + 1) ⊎ (m + 1 ≤ v)
            → take t.workers (set counts q v) ≡ row t (operation_at t q v)
        each v a b (inl k) = step-rows.each v a k
        each v a b (inr k) =
            let (r, g) = next (inside (m + 1) (omega (arith, k, b, most))) in
            plain_row step.next g v k (omega (arith, b)) (inside v (omega (arith, b, most)))

        going : operation_at t q (reached list end last (at + 1)) < size t → (m + 1 < last) ⊎ (last ≤ m + 1)
            → (r : List ℕ)
            × Going t (operation_at t q (reached list end last (at + 1))) q r list ends lasts nexts
            (set counts q (reached list end last (at + 1))) (with_post events' (event (get_or list at 0)))
            (set waiting' (event (get_or list at 0)) 0) 0
        going l (inl k) =
            let (r, g) = next (inside (m + 1) k) in
            plain-going step.next g (reached list end last (at + 1)) step.next.on (omega arith) l
        going l (inr k) =
            let below = at_count t q _ l in
            absurd (omega (arith, below, x.all, k, step.next.on))

    -- ---- that frees somebody

    pub own-freed : OwnPassed t list ends lasts nexts counts q i (at + 1) (ahead (get_or list at 0) + 1)
        (with_post events' (event (get_or list at 0))) (set waiting' (event (get_or list at 0)) 0)
        (get_or waiting' (event (get_or list at 0)) 0)
    own-freed =
        record {
          up = omega (arith, step-on);
          most = omega (arith, step-few);
          rows = step-rows;
          follows = λ l. step_follows;
          going = step-next;
        }

  -- ---- the end

  pub own-end : {at : ℕ} {events' waiting' : List ℕ} → OwnTo t list ends lasts nexts counts q i at events' waiting'
      → get_or ends q 0 ≤ at → OwnPassed t list ends lasts nexts counts q i at (get_or lasts q 0) events' waiting' 0
  own-end {at} y h =
      let e = reached-end list last h in
      record {
        up = x.left;
        most = omega arith;
        rows = rw e at y.rows;
        follows = λ l. absurd (omega arith);
        going = λ l. absurd (omega (arith, at_count t q _ l, x.all));
      }
