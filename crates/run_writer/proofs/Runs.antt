-- The run that holds an operation back, in two walks. In order: the start; the operation is let in; the run.
use mathlib.Core.List.{List, [], ◌++◌, append-nil}
use mathlib.Core.Path.{◌≡◌, refl}
use Prim.Native.Nat.{ℕ, ◌+◌, ◌-◌}
use lib.ListN.{length, get_or, set}
use Rattle.runs.specs.Workers.{HoldsBack, no_step}
use Rattle.runs.proofs.Done.{done-append}
use Rattle.runs.proofs.HoldingBack.{holds-back-unique}
use Rattle.runs.proofs.LowestWorker.{lowest-ends, lowest-whole, closed-whole}
use Rattle.trace.specs.Trace.{Trace, size, worker_of}
use Rattle.masks.specs.Masks.{Below, With}
use Rattle.model.specs.Computed.{held_back_run}
use Rattle.model.specs.Rule.{rule}
use Rattle.model.proofs.RuleLaws.{rule-monotone, rule-in-turn, order-ascending, order-preference}
use Rattle.states.proofs.Answers.{workers-known}
use Rattle.walk.proofs.Turns.{going-closed, going-exhausted}
use Rattle.courses.specs.Courses.{Unstarted, BegunWithout, LeftOut}
use Rattle.courses.proofs.Starting.{without-sized, let-in-sized, going-without, going-let-in}
use Rattle.run_writer.specs.Writing.{Written, WritesRun}

module _ {t : Trace} {p : ℕ} {starts list ends : List ℕ} {q prior b : ℕ} (x : LeftOut t p starts list ends q prior b)
    {nexts stops lasts : List ℕ} (y : BegunWithout starts list ends q prior nexts stops lasts) where
  -- ---- the start

  pub written_start : {counts events waiting : List ℕ} → Unstarted counts events waiting → {all : ℕ}
      → Below p all → {run : List ℕ} → length run ≡ 1024
      → Written t b [] list stops lasts nexts counts events waiting all 0 run
  written_start none all room =
      record {
        more = [];
        going = going-without x y none all;
        lowest = no_step;
        sized = without-sized y;
        long = refl;
        room = room;
        front = refl;
      }

  module _ {nexts' counts events waiting run : List ℕ} {at : ℕ}
      (w : Written t b [] list stops lasts nexts' counts events waiting 0 at run) where
    -- ---- the operation is let in

    pub written-let-in : {stops' lasts' : List ℕ} {own : ℕ}
        → (stops' ≡ set stops q (get_or ends q 0)) × (lasts' ≡ set lasts q (get_or starts (q + 1) 0 - get_or starts q 0))
        → With 0 q own → Written t (size t) w.more list stops' lasts' nexts' counts events waiting own at run
    written-let-in i own =
        record {
          more = [];
          going = rw append-nil (going-let-in x y w.going i own);
          lowest = no_step;
          sized = let-in-sized y w.sized i.0;
          long = rw append-nil w.long;
          room = w.room;
          front = rw append-nil w.front;
        }

    -- ---- the run

    module _ {stops' lasts' nexts'' counts'' events'' waiting'' run'' : List ℕ} {at'' : ℕ}
        (v : Written t (size t) w.more list stops' lasts' nexts'' counts'' events'' waiting'' 0 at'' run'') where
      holds : HoldsBack (worker_of t) (rule t) b (w.more ++ v.more)
      holds =
          record {
            without_b = w.more;
            on = v.more;
            parts = refl;
            other_than_b = lowest-ends w.lowest (going-closed x.fits w.going);
            to_the_end = lowest-ends (lowest-whole {R = rule t} v.lowest)
                (rw (done-append [] w.more v.more) at
                (closed-whole {R = rule t} (going-closed x.fits v.going)));
          }

      held_back : w.more ++ v.more ≡ held_back_run t b
      unfolding held_back_run
      held_back =
          holds-back-unique (rule-monotone t) (order-ascending t) (order-preference (workers-known x.fits))
          (rule-in-turn t) b holds

      pub writes-run : WritesRun t b counts counts'' run''
      writes-run =
          record {
            without_b = record { run = w.more; events = events; exhausted = going-exhausted x.fits w.going };
            whole_run = record {
              run = w.more ++ v.more;
              events = events'';
              exhausted = going-exhausted x.fits v.going;
            };
            front = rw (← held_back, v.long) v.front;
            room = v.room;
          }
