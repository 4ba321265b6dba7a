-- A worker's steps up to one that frees somebody, in whatever trace. In order: whatever the arrays' lengths are; with
-- the lengths.
use mathlib.Core.List.{List}
use mathlib.Core.Path.{◌≡◌, ◌∙◌}
use native.Mathlib.Omega.{arith}
use Prim.Native.Nat.{ℕ, ◌+◌, ◌<◌, ◌≤◌}
use lib.ListN.{length, get_or, set, length-set}
use Rattle.events.specs.Events.{with_post}
use Rattle.events.proofs.EventBits.{with_post-length}
use Rattle.index.specs.Steps.{ahead, event}
use Rattle.table_rows.specs.Passing.{Passes, Passing, PassesOwn, PassingOwn}
use Rattle.table_rows.proofs.OwnSteps.{own-start, own-next, own-freed, own-end}

pub pass-start : {list : List ℕ} {q own end last : ℕ} {events waiting : List ℕ} → own ≤ end
    → Passing list q own end last events waiting events waiting own
pass-start h =
    record {
      inside = h;
      passing = λ t ends lasts nexts counts i e l x. own-start x;
    }

module _ {list : List ℕ} {q own end last : ℕ} {events waiting events' waiting' : List ℕ} {at : ℕ}
    (y : Passing list q own end last events waiting events' waiting' at) where
  pub pass-next : at < end → get_or waiting' (event (get_or list at 0)) 0 ≡ 0
      → Passing list q own end last events waiting (with_post events' (event (get_or list at 0)))
      (set waiting' (event (get_or list at 0)) 0) (at + 1)
  pass-next h none =
      record {
        inside = omega (arith, h);
        passing = λ t ends lasts nexts counts i e l x.
            own-next x (y.passing t ends lasts nexts counts i e l x) (omega (arith, e, h)) none;
      }

  pub pass-freed : at < end
      → Passes list q own end last events waiting (with_post events' (event (get_or list at 0)))
      (set waiting' (event (get_or list at 0)) 0) (at + 1) (ahead (get_or list at 0) + 1)
      (get_or waiting' (event (get_or list at 0)) 0)
  pass-freed h =
      record {
        inside = omega (arith, h);
        passed = λ t ends lasts nexts counts i e l x.
            own-freed x (y.passing t ends lasts nexts counts i e l x) (omega (arith, e, h));
      }

  pub pass-end : end ≤ at → Passes list q own end last events waiting events' waiting' at last 0
  pass-end h =
      record {
        inside = y.inside;
        passed = λ t ends lasts nexts counts i e l x.
            rw l at (own-end x (y.passing t ends lasts nexts counts i e l x) (omega (arith, e, h)));
      }

-- ---- with the lengths

pub passing-start : {list : List ℕ} {q own end last : ℕ} {events waiting : List ℕ} → own ≤ end → length events ≡ 4
    → length waiting ≡ 256 → PassingOwn list q own end last events waiting events waiting own
passing-start h k room =
    record {
      inside = h;
      words = k;
      room = room;
      passing = λ t ends lasts nexts counts i e l x. own-start x;
    }

module _ {list : List ℕ} {q own end last : ℕ} {events waiting events' waiting' : List ℕ} {at : ℕ}
    (y : PassingOwn list q own end last events waiting events' waiting' at) where
  any-lengths : Passing list q own end last events waiting events' waiting' at
  any-lengths = record { inside = y.inside; passing = y.passing }

  pub passing-next : at < end → get_or waiting' (event (get_or list at 0)) 0 ≡ 0
      → PassingOwn list q own end last events waiting (with_post events' (event (get_or list at 0)))
      (set waiting' (event (get_or list at 0)) 0) (at + 1)
  passing-next h none =
      record {
        inside = omega (arith, h);
        words = with_post-length events' _ ∙ y.words;
        room = length-set waiting' _ 0 ∙ y.room;
        passing = (pass-next any-lengths h none).passing;
      }

  pub passes-freed : at < end
      → PassesOwn list q own end last events waiting (with_post events' (event (get_or list at 0)))
      (set waiting' (event (get_or list at 0)) 0) (at + 1) (ahead (get_or list at 0) + 1)
      (get_or waiting' (event (get_or list at 0)) 0)
  passes-freed h =
      record {
        inside = omega (arith, h);
        words = with_post-length events' _ ∙ y.words;
        room = length-set waiting' _ 0 ∙ y.room;
        passed = (pass-freed any-lengths h).passed;
      }

  pub passes-end : end ≤ at → PassesOwn list q own end last events waiting events' waiting' at last 0
  passes-end h =
      record { inside = y.inside; words = y.words; room = y.room; passed = (pass-end any-lengths h).passed }
