-- A run written turn by turn. In order: a stretch of the order; how far a worker can get; one turn more; what is
-- copied.
use mathlib.Core.Bool.{true}
use mathlib.Core.List.{List, [], ◌++◌, append_assoc}
use mathlib.Core.Logic.{inl}
use mathlib.Core.Path.{◌≡◌, refl, sym, ap, ◌∙◌}
use native.Mathlib.Omega.{arith}
use Prim.Native.Nat.{ℕ, ◌+◌, ◌-◌, ◌<◌, ◌≤◌}
use lib.Dec.{eqb}
use lib.ListN.{length, get_or, take, drop, length-append, length-drop}
use borrow.Rule.Slice.PartMut.{put_mid}
use Rattle.std.proofs.lemmas.Slice.{put_mid-paste}
use lib.Seq.{ext_get_or, get_or-take, get_or-drop, length-take-le, paste, take-paste, length-paste, take_all}
use Rattle.basics.specs.Membership.{◌⊆◌, up_to}
use Rattle.runs.specs.Workers.{count, operations_of}
use Rattle.runs.proofs.Done.{done-append}
use Rattle.runs.proofs.Lengths.{different-count, up_to-in}
use Rattle.runs.proofs.LowestWorker.{lowest-append}
use Rattle.runs.proofs.Places.{operations_of-length}
use Rattle.runs.proofs.RunSteps.{run_length}
use Rattle.trace.specs.Trace.{Trace, size, worker_of}
use Rattle.masks.specs.Masks as masks
use Rattle.index.specs.Indexed.{Places}
use Rattle.index.proofs.Lookups.{part_count, part-numbers, part-start, places-inside}
use Rattle.states.specs.States.{EndsRun}
use Rattle.states.proofs.Ends.{run-count}
use Rattle.walk.specs.Going.{Going, stretch, Turned}
use Rattle.run_writer.specs.Writing.{Written, Writing}

module _ {t : Trace} {n : ℕ} {order starts : List ℕ} (x : Places t n order starts)
    {q : ℕ} (known : q < t.workers) where
  low : q < 16
  low = omega (arith, known, x.fits.most)

  abbrev all : ℕ
  all = count (worker_of t) q (up_to n)

  -- ---- a stretch of the order

  pub stretch-place : {j : ℕ} → j ≤ count (worker_of t) q (up_to n) → get_or starts q 0 + j ≤ n
  stretch-place l = omega (arith, l, part_count x q low, part-start x (q + 1) (omega (arith, low)))

  pub stretch-order : {i j : ℕ} → i ≤ j → j ≤ count (worker_of t) q (up_to n)
      → stretch t q i j ≡ take (j - i) (drop (get_or starts q 0 + i) order)
  stretch-order {i} {j} h l = ext_get_or 0 _ _ (long ∙ sym long') each
    where
      numbers : take (count (worker_of t) q (up_to n)) (drop (get_or starts q 0) order) ≡ operations_of (worker_of t) q n
      numbers = part-numbers x q (count (worker_of t) q (up_to n)) known (sym (part_count x q low))

      ops : List ℕ
      ops = operations_of (worker_of t) q (size t)

      many : length ops ≡ count (worker_of t) q (up_to n)
      many = rw x.count (operations_of-length (worker_of t) q n)

      long : length (stretch t q i j) ≡ j - i
      long = length-take-le (j - i) (drop i ops) (omega (arith, length-drop i ops, many, l))

      long' : length (take (j - i) (drop (get_or starts q 0 + i) order)) ≡ j - i
      long' =
          length-take-le (j - i) (drop (get_or starts q 0 + i) order)
          (omega (arith, length-drop (get_or starts q 0 + i) order, places-inside x, stretch-place l, h))

      each : (k : ℕ) → k < length (stretch t q i j)
          → get_or (stretch t q i j) k 0 ≡ get_or (take (j - i) (drop (get_or starts q 0 + i) order)) k 0
      each k m =
          let few : k < j - i = omega (arith, m, long) in
          let at = rw x.count at (get_or-drop i ops k 0) in
          let here = get_or-take (count (worker_of t) q (up_to n)) (drop (get_or starts q 0) order) (i + k) 0
          (omega (arith, few, l)) in
          let same : get_or starts q 0 + i + k ≡ get_or starts q 0 + (i + k) = omega arith in
          get_or-take (j - i) (drop i ops) k 0 few
          ∙ get_or-drop i ops k 0
          ∙ rw x.count (ap (λ (o : List ℕ). get_or o (i + k) 0) (sym numbers))
          ∙ here
          ∙ get_or-drop (get_or starts q 0) order (i + k) 0
          ∙ sym (get_or-take (j - i) (drop (get_or starts q 0 + i) order) k 0 few
          ∙ get_or-drop (get_or starts q 0 + i) order k 0 ∙ ap (λ (z : ℕ). get_or order z 0) same)

  -- ---- how far a worker can get

  pub count_most : {a : ℕ} {r counts events : List ℕ} → EndsRun t a r counts events
      → get_or counts q 0 ≤ count (worker_of t) q (up_to n)
  count_most {r = r} y =
      let inside : r ⊆ up_to n = record { all = λ m. up_to-in n (rw (← x.count) (y.is_a_run.below m)) } in
      omega (
        arith,
        run-count y.is_a_run y.shows q,
        different-count (λ z. eqb (worker_of t z) q) y.is_a_run.different inside,
      )

-- ---- one turn more

module _ {t : Trace} {n : ℕ} {order starts : List ℕ} (x : Places t n order starts) (few : n ≤ 1024)
    {a : ℕ} {base list ends lasts nexts counts events waiting : List ℕ} {ready at : ℕ} {run : List ℕ}
    (w : Written t a base list ends lasts nexts counts events waiting ready at run)
    {q : ℕ} (first : masks.Lowest ready q) {nexts' counts' events' waiting' : List ℕ} {ready' : ℕ}
    (u : Turned list ends lasts true q nexts counts events waiting ready nexts' counts' events' waiting' ready') where
  abbrev i : ℕ
  i = get_or counts q 0

  abbrev j : ℕ
  j = get_or counts' q 0

  known : q < t.workers
  known = (w.going.awake q (inl first.here)).0

  after : Going t a 16 ((base ++ w.more) ++ stretch t q (get_or counts q 0) (get_or counts' q 0)) list ends lasts nexts'
      counts' events' waiting' ready' × (get_or counts q 0 ≤ get_or counts' q 0)
  after = u.going t a 16 (base ++ w.more) w.going

  pub turn_on : get_or counts q 0 ≤ get_or counts' q 0
  turn_on = after.1

  turn-most : get_or counts' q 0 ≤ count (worker_of t) q (up_to n)
  turn-most = count_most x known after.0.run

  -- what is copied stands in the order
  pub turn_inside : get_or starts q 0 + get_or counts' q 0 ≤ length order
  turn_inside = omega (arith, stretch-place x known turn-most, places-inside x)

  is-stretch : stretch t q i j ≡ take (j - i) (drop (get_or starts q 0 + i) order)
  is-stretch = stretch-order x known turn_on turn-most

  long : length ((base ++ w.more) ++ stretch t q (get_or counts q 0) (get_or counts' q 0))
      ≡ at + (get_or counts' q 0 - get_or counts q 0)
  long =
      length-append (base ++ w.more) (stretch t q i j)
      ∙ rw (w.long, is-stretch)
      (ap (λ (z : ℕ). at + z) (length-take-le (j - i) (drop (get_or starts q 0 + i) order)
      (omega (arith, length-drop (get_or starts q 0 + i) order, turn_inside, turn_on))))

  -- and has room in the run
  pub turn-room : at + (get_or counts' q 0 - get_or counts q 0) ≤ 1024
  turn-room = omega (arith, long, run_length after.0.run.is_a_run, x.count, few)

  pub written-turn : Written t a base list ends lasts nexts' counts' events' waiting' ready'
      (at + (get_or counts' q 0 - get_or counts q 0))
      (paste run at (drop (get_or starts q 0 + get_or counts q 0) order) (get_or counts' q 0 - get_or counts q 0))
  written-turn =
      record {
        more = w.more ++ stretch t q i j;
        going = rw together after.0;
        lowest = lowest-append w.lowest (rw (done-append [] base w.more) at
            (u.lowest refl t a 16 (base ++ w.more) w.going));
        sized = u.sized;
        long = rw together long;
        room = length-paste run at part m (omega (arith, turn-room, w.room)) inside ∙ w.room;
        front = rw together (take-paste run at part m (omega (arith, turn-room, w.room)) inside ∙ rw
            (w.front, is-stretch));
      }
    where
      part : List ℕ
      part = drop (get_or starts q 0 + get_or counts q 0) order

      m : ℕ
      m = get_or counts' q 0 - get_or counts q 0

      inside : get_or counts' q 0 - get_or counts q 0 ≤ length (drop (get_or starts q 0 + get_or counts q 0) order)
      inside = omega (arith, length-drop (get_or starts q 0 + i) order, turn_inside, turn_on)

      together : base ++ (w.more ++ stretch t q i j) ≡ (base ++ w.more) ++ stretch t q i j
      together = sym (append_assoc base w.more (stretch t q i j))

-- the same, of some trace
module _ {order starts list ends lasts nexts counts events waiting : List ℕ} {ready at : ℕ} {run : List ℕ}
    (w : Writing order starts list ends lasts nexts counts events waiting ready at run)
    {q : ℕ} (first : masks.Lowest ready q) {nexts' counts' events' waiting' : List ℕ} {ready' : ℕ}
    (u : Turned list ends lasts true q nexts counts events waiting ready nexts' counts' events' waiting' ready') where
  pub writing-on : get_or counts q 0 ≤ get_or counts' q 0
  writing-on = turn_on w.places w.few w.written first u

  pub writing-inside : get_or starts q 0 + get_or counts' q 0 ≤ length order
  writing-inside = turn_inside w.places w.few w.written first u

  pub writing-room : at + (get_or counts' q 0 - get_or counts q 0) ≤ 1024
  writing-room = turn-room w.places w.few w.written first u

  pub writing-turn : Writing order starts list ends lasts nexts' counts' events' waiting' ready'
      (at + (get_or counts' q 0 - get_or counts q 0))
      (paste run at (drop (get_or starts q 0 + get_or counts q 0) order) (get_or counts' q 0 - get_or counts q 0))
  writing-turn =
      record {
        trace = w.trace;
        count = w.count;
        few = w.few;
        places = w.places;
        out = w.out;
        base = w.base;
        written = written-turn w.places w.few w.written first u;
      }

-- ---- what is copied

pub copied : (order run : List ℕ) (first at m : ℕ) {part : List ℕ} → first + m ≤ length order
    → part ≡ take (first + m - first) (drop first order)
    → put_mid at (at + m - at) run part ≡ paste run at (drop first order) m
copied order run first at m {part} h e =
    let s = drop first order in
    let same : first + m - first ≡ m = omega arith in
    let long = length-take-le m s (omega (arith, length-drop first order, h)) in
    put_mid-paste at (at + m - at) run part (take m s) m (e ∙ ap (λ (z : ℕ). take z s) same) (omega arith) (sym long)
    ∙ ap (λ (z : List ℕ). take at run ++ z ++ drop (at + m) run) (take_all m (take m s) (omega (arith, long)))
