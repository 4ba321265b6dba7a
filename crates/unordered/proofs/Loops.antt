-- The loops that move an end up. In order: taking in; letting out.
use mathlib.Core.Bool.{true, false}
use mathlib.Core.List.{List}
use mathlib.Core.Logic.{inl, inr, ◌≢◌}
use mathlib.Core.Path.{◌≡◌, sym, ◌∙◌}
use native.Mathlib.Omega.{arith}
use Prim.Native.Nat.{ℕ, ◌+◌, ◌*◌, ◌<◌, ◌≤◌}
use lib.ListN.{get_or}
use lib.Seq.{get_or-set_same}
use Rattle.basics.proofs.Booleans.{equal?, less?}
use Rattle.trace.specs.Reading.{trace_of}
use Rattle.trace.specs.Trace.{Trace, size}
use Rattle.model.specs.Computed.{must_precede_in}
use Rattle.unordered.specs.declared.Unordered.{Unordered}
use Rattle.unordered.specs.Kept.{IsOf, low_of, high_of, rank_at, Ends, Kept}
use Rattle.unordered.specs.Turns.{TakenOne, LetOne, Ahead, Settled, Turn, OtherRanks}
use Rattle.unordered.proofs.Ends.{of-few, end-few, low-inside, high-inside}
use Rattle.unordered.proofs.Entries.{rank-inside, rank_below, Place, place-given, place-next, two-workers}
use Rattle.unordered.proofs.Entries.{after-certain, after-uncertain, before-certain, before-uncertain}
use Rattle.unordered.proofs.Order.{certain-on, uncertain-on}
use Rattle.unordered.proofs.Ranks.{ranks-moved}
use Rattle.unordered.proofs.Turns.{Sized, take-one, let-one, take-moved, let-moved}

-- ---- taking in

-- h is the next operation of q to take in, and `due` its rank
pub record TakingIn (t : Trace) (table : List ℕ) (n a w q : ℕ) (kept : Unordered) (h due : ℕ) : Type 0 where
  pub turn : Turn t a w q kept
  pub end : h ≡ high_of kept w q
  pub rank : due ≡ rank_at table t.workers n h q
  pub ranks : OtherRanks t table w q kept

module _ {bytes table : List ℕ} {n a w : ℕ} (l : Place bytes table n a w) {q : ℕ} (few : q < (trace_of bytes).workers)
  where
    abbrev p : ℕ
    p = (trace_of bytes).workers

    module _ {kept : Unordered} {h due : ℕ} (s : TakingIn (trace_of bytes) table n a w q kept h due) where
      ends-in : Ends (trace_of bytes) a w q (low_of kept w q) h
      ends-in = rw s.end (s.turn.state.ends w q (of-few (place-given l) l.turn) few)

      -- where its rank is below an entry it is an operation of q, and w another worker
      pub in-here : {bound : ℕ} → bound < 65536 → due < bound → IsOf (trace_of bytes) q h × (w ≢ q)
      in-here m b =
          let below = rank_below table p n h q (omega (arith, s.rank)) in
          high-inside (place-given l) ends-in (omega (arith, below, l.count))

      pub in-few : {bound : ℕ} → bound < 65536 → due < bound → h < 1024
      in-few m b = omega (arith, (in-here m b).0.below, (place-given l).few)

      -- the next one is behind it
      pub in-ahead : {bound after : ℕ} → bound < 65536 → due < bound → after ≡ get_or kept.next h 0
          → (h < after) × (h < 1024)
      in-ahead m b f = (omega (arith, (place-next s.turn.state (in-here m b).0).ahead, f), in-few m b)

      pub in-more : {bound after due' : ℕ} {kept' : Unordered} → Sized kept → bound < 65536
          → bound ≡ get_or table (a * p + q) 0 → due < bound → TakenOne w q h (get_or kept.next h 0) kept kept'
          → after ≡ get_or kept.next h 0 → due' ≡ rank_at table p n after q
          → TakingIn (trace_of bytes) table n a w q kept' after due'
      in-more sized m e b x f r =
          let (o, d) = in-here m b in
          let g = place-given l in
          let same = rank-inside table p n h q (omega (arith, o.below, l.count)) in
          let un = after-uncertain l o d (omega (arith, same, s.rank)) in
          let two = two-workers l few in
          rw x.stored
          (record {
            turn = take-one g l.turn few s.turn o sized s.end un (place-next s.turn.state o) x.holds;
            end =
                f
                ∙ sym (get_or-set_same kept.high (16 * w + q) (get_or kept.next h 0) 0 (omega (arith, two, sized.high)));
            rank = r;
            ranks = ranks-moved g.most (take-moved g l.turn few s.turn o x.word (get_or kept.next h 0)) s.ranks;
          })

      pub in_end : {bound : ℕ} → bound ≡ get_or table (a * p + q) 0 → bound ≤ due
          → Turn (trace_of bytes) a w q kept
          × Ahead (trace_of bytes) a q (high_of kept w q)
          × OtherRanks (trace_of bytes) table w q kept
      in_end e b = (s.turn, rw (← s.end) (record { certain = ahead }), s.ranks)
        where
          ahead : {b : ℕ} → IsOf (trace_of bytes) q b → h ≤ b → must_precede_in (trace_of bytes) a b ≡ true
          ahead i m =
              let g = place-given l in
              let inside : h < size (trace_of bytes) = omega (arith, i.below) in
              let (o, d) = high-inside g ends-in inside in
              let same = rank-inside table p n h q (omega (arith, inside, l.count)) in
              certain-on g l.turn.below o i m (after-certain l o d (omega (arith, same, s.rank)))

-- ---- letting out

-- k is the next operation of q to let out, and `gone` its rank; `high` is the high end
pub record LettingOut (t : Trace) (table : List ℕ) (a w q : ℕ) (kept : Unordered) (high k gone : ℕ) : Type 0 where
  pub turn : Turn t a w q kept
  pub ahead : Ahead t a q high
  pub high_end : high ≡ high_of kept w q
  pub end : k ≡ low_of kept w q
  pub rank : gone ≡ rank_at table t.workers high k w
  pub ranks : OtherRanks t table w q kept

-- the row of the low end
pub low-row : {bytes table : List ℕ} {n a w : ℕ} → Place bytes table n a w → {q : ℕ} → q < (trace_of bytes).workers
    → {kept : Unordered} {high k : ℕ} → Kept (trace_of bytes) a kept → high ≡ high_of kept w q → k ≡ low_of kept w q
    → k < high → (k < size (trace_of bytes)) × (w < (trace_of bytes).workers)
low-row l {q} few {kept} s e f below =
    let g = place-given l in
    let w-few = of-few g l.turn in
    let ends = rw (← e, ← f) at (s.ends _ q w-few few) in
    ((low-inside g ends below).below, w-few)

module _ {bytes table : List ℕ} {n a w : ℕ} (l : Place bytes table n a w) {q : ℕ} (few : q < (trace_of bytes).workers)
    {kept : Unordered} {high k gone : ℕ} (s : LettingOut (trace_of bytes) table a w q kept high k gone)
  where
    abbrev rows : ℕ
    rows = (trace_of bytes).workers

    ends-out : Ends (trace_of bytes) a w q k high
    ends-out = rw (s.end, s.high_end) (s.turn.state.ends w q (of-few (place-given l) l.turn) few)

    -- where it is below the high end it is an operation of q, and w another worker
    inside-out : k < high → IsOf (trace_of bytes) q k × (w ≢ q)
    inside-out b =
        let o = low-inside (place-given l) ends-out b in
        (o, λ e. omega (arith, ends-out.own e, o.below, (place-given l).few))

    pub out-here : {bound : ℕ} → bound < 65536 → gone ≤ bound → IsOf (trace_of bytes) q k × (w ≢ q)
    out-here m b = inside-out (rank_below table rows high k w (omega (arith, s.rank)))

    pub out-few : {bound : ℕ} → bound < 65536 → gone ≤ bound → k < 1024
    out-few m b = omega (arith, (out-here m b).0.below, (place-given l).few)

    pub out-ahead : {bound after : ℕ} → bound < 65536 → gone ≤ bound → after ≡ get_or kept.next k 0
        → (k < after) × (k < 1024)
    out-ahead m b f = (omega (arith, (place-next s.turn.state (out-here m b).0).ahead, f), out-few m b)

    -- the next one's row
    pub out-row : {bound after : ℕ} → bound < 65536 → gone ≤ bound → after ≡ get_or kept.next k 0 → after < high
        → (after < size (trace_of bytes)) × (w < (trace_of bytes).workers)
    out-row {after = after} m b f below =
        let (o, d) = out-here m b in
        let g = place-given l in
        let place = rw (← f) at (place-next s.turn.state o).place in (
          elim (less? after (size (trace_of bytes))) [
            | inl i ↦ i
            | inr i ↦ absurd (omega (arith, place.end i, end-few g ends-out.high_place))
          ],
          of-few g l.turn,
        )

    pub out-more : {bound after gone' : ℕ} {kept' : Unordered} → Sized kept → bound < 65536
        → bound ≡ get_or table (a * rows + w) 0 → gone ≤ bound → LetOne w q k (get_or kept.next k 0) kept kept'
        → after ≡ get_or kept.next k 0 → gone' ≡ rank_at table rows high after w
        → LettingOut (trace_of bytes) table a w q kept' high after gone'
    out-more sized m e b x f r =
        let (o, d) = out-here m b in
        let g = place-given l in
        let below = rank_below table rows high k w (omega (arith, s.rank)) in
        let same = rank-inside table rows high k w below in
        let c = before-certain l o d (omega (arith, same, s.rank)) in
        let two = two-workers l few in
        let at : k < high_of kept w q = omega (arith, s.high_end) in
        rw x.stored
        (record {
          turn = let-one g l.turn few s.turn o sized s.end at c (place-next s.turn.state o) x.holds;
          ahead = s.ahead;
          high_end = s.high_end;
          end =
              f ∙ sym (get_or-set_same kept.low (16 * w + q) (get_or kept.next k 0) 0 (omega (arith, two, sized.low)));
          rank = r;
          ranks = ranks-moved g.most (let-moved g l.turn few s.turn o x.word (get_or kept.next k 0)) s.ranks;
        })

    pub out-end : {bound : ℕ} → bound ≡ get_or table (a * rows + w) 0 → bound < gone
        → Turn (trace_of bytes) a w (q + 1) kept × OtherRanks (trace_of bytes) table w q kept
    out-end e b = (record { state = s.turn.state; settled = settled }, s.ranks)
      where
        behind : {b : ℕ} → IsOf (trace_of bytes) q b → k ≤ b → b < high → must_precede_in (trace_of bytes) b a ≡ false
        behind i m below =
            let (o, d) = inside-out (omega arith) in
            let same = rank-inside table rows high k w (omega arith) in
            uncertain-on (place-given l) a o i m (before-uncertain l o d (omega (arith, same, s.rank)))

        here : Settled (trace_of bytes) a q (low_of kept w q) (high_of kept w q)
        here = rw (← s.end, ← s.high_end) (record { ahead = s.ahead; behind = behind })

        settled : (r : ℕ) → r < q + 1 → Settled (trace_of bytes) a r (low_of kept w r) (high_of kept w r)
        settled r m = elim (equal? r q) [ inl z ↦ rw z here | inr z ↦ s.turn.settled r (omega (arith, z)) ]
