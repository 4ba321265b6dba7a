-- Turn by turn. In order: a sum after a store; what falls; the state after a turn; one turn behind the other; the end.
use mathlib.Core.Bool.{Bool, true}
use mathlib.Core.List.{List, [], ◌∷◌, ◌++◌, append-nil, append_assoc}
use mathlib.Core.Logic.{◌⊎◌, inl, inr, ◌≢◌}
use mathlib.Core.Path.{◌≡◌, ◌∙◌}
use native.Mathlib.Nat.{not-suc-le-zero}
use native.Mathlib.Omega.{arith}
use Prim.Native.Nat.{ℕ, zero, suc, ◌+◌, ◌-◌, ◌*◌, ◌<◌, ◌≤◌}
use lib.Bits.{bit_or, or_zero_r}
use lib.ListN.{length, get_or, set, length-set}
use lib.Seq.{get_or-set_same, get_or-set_other}
use Rattle.basics.proofs.Booleans.{equal?}
use Rattle.runs.specs.Rule.{without}
use Rattle.runs.specs.Steps.{Closed, done}
use Rattle.trace.specs.Premises.{Fits}
use Rattle.trace.specs.Trace.{Trace}
use Rattle.masks.specs.Masks.{◌is_in◌, Without}
use Rattle.masks.specs.Masks as masks
use Rattle.masks.proofs.Sets.{in-none, in_either, in_left, in_right}
use Rattle.model.specs.Rule.{rule}
use Rattle.index.specs.Steps.{Follows}
use Rattle.states.specs.States.{Exhausted, Blocked, next_of}
use Rattle.states.proofs.Moves.{blocked-closed}
use Rattle.states.proofs.Runs.{ends-counted, ends-exhausted}
use Rattle.walk.specs.Going.{Stopped, Awake, Going, stretch, Moved, LowestStretch, Went, Sized, sum, left}
use Rattle.walk.specs.Going.{Turned, Walked}
use Rattle.walk.proofs.Releasing.{still, stopped-blocked}

-- ---- a sum

sum-set : (l : List ℕ) (i v : ℕ) → i < length l → sum (set l i v) + get_or l i 0 ≡ sum l + v
sum-set [] i v h = absurd (not-suc-le-zero h)
sum-set (x ∷ l) zero v h = omega arith
sum-set (x ∷ l) (suc i) v h = omega (arith, sum-set l i v (omega (arith, h)))

sum-most : (l : List ℕ) → ((i : ℕ) → i < length l → get_or l i 0 ≤ 1024) → sum l ≤ length l * 1024
sum-most [] f = omega arith
sum-most (x ∷ l) f =
    let rest = sum-most l (λ i h. f (suc i) (omega (arith, h))) in
    omega (arith, f 0 (omega arith), rest)

sized-sum : {ends nexts : List ℕ} → Sized ends nexts → length nexts ≡ 16 → sum nexts ≤ 16384
sized-sum {ends} {nexts} s places =
    let h = sum-most nexts (λ i l. let e = s.each i (omega (arith, places)) in omega (arith, e.0, e.1)) in
    omega (arith, rw places at h)

module _ {list ends nexts events waiting events' waiting' : List ℕ} {ready q below at c freed rest : ℕ}
    (lasts counts : List ℕ) (s : Sized ends nexts) (places : length nexts ≡ 16) (counters : length counts ≡ 16)
    (first : masks.Lowest ready q)
    (w : Without ready q rest)
    (g : Went list q below (get_or nexts q 0) (get_or ends q 0) (get_or lasts q 0) events waiting events' waiting' at c freed)
  where
    next-own : get_or (set nexts q at) q 0 ≡ at
    next-own = get_or-set_same nexts q at 0 (omega (arith, places, first.few))

    count-own : get_or (set counts q c) q 0 ≡ c
    count-own = get_or-set_same counts q c 0 (omega (arith, counters, first.few))

    turned-sized : Sized ends (set nexts q at)
    turned-sized = record { each = λ r l. each r l (equal? r q) }
      where
        each : (r : ℕ) → r < 16 → (r ≡ q) ⊎ (r ≢ q)
            → (get_or (set nexts q at) r 0 ≤ get_or ends r 0) × (get_or ends r 0 ≤ 1024)
        each r l (inl e) = rw (e, next-own) (g.along.up_to_end, (s.each q first.few).1)
        each r l (inr n) = rw (get_or-set_other nexts q r at 0 n) (s.each r l)

    -- ---- what falls

    turned-falls : bit_or rest freed < 65536 → left (set nexts q at) (bit_or rest freed) < left nexts ready
    unfolding left
    turned-falls few = go (equal? at (get_or nexts q 0))
      where
        more : sum (set nexts q at) + get_or nexts q 0 ≡ sum nexts + at
        more = sum-set nexts q at (omega (arith, places, first.few))

        go : (at ≡ get_or nexts q 0) ⊎ (at ≢ get_or nexts q 0)
            → (16384 - sum (set nexts q at)) * 65536 + bit_or rest freed < (16384 - sum nexts) * 65536 + ready
        go (inl e) =
            let same : bit_or rest freed ≡ rest = rw (g.along.none e) (or_zero_r rest) in
            omega (arith, more, e, same, w.less)
        go (inr n) =
            let most = sized-sum turned-sized (length-set nexts q at ∙ places) in
            omega (arith, more, n, few, g.along.from_on, most)

    -- ---- the state

    module _ (t : Trace) (a out : ℕ) (r : List ℕ) (x : Going t a out r list ends lasts nexts counts events waiting
        ready)
      where
        own : Follows t a list q (get_or nexts q 0) (get_or ends q 0) (get_or lasts q 0) (get_or counts q 0)
        own = x.follows q first.few (x.awake q (inl first.here)).1

        moved : Moved t a list q (get_or ends q 0) (get_or lasts q 0) r counts events' at c
        moved = g.along.moved t a r counts x.run own

        -- nobody else comes to be ready or to wait
        was-awake : (p : ℕ) → p ≢ q → Awake waiting' (bit_or rest freed) p → Awake waiting ready p
        was-awake p n (inl i) = go (in_either rest freed i)
          where
            go : (p is_in rest) ⊎ (p is_in freed) → Awake waiting ready p
            go (inl j) = inl ((w.each p).0 j).0
            go (inr j) = elim (g.along.released.freed_waited p j) [ inl e ↦ absurd (n e) | inr k ↦ inr k ]
        was-awake p n (inr (e, i)) =
            elim (g.along.released.waits_waited e p i) [ inl z ↦ absurd (n z) | inr k ↦ inr (e, k) ]

        follows : (p : ℕ) → p < 16 → p ≢ out → (p ≡ q) ⊎ (p ≢ q)
            → Follows t a list p (get_or (set nexts q at) p 0) (get_or ends p 0) (get_or lasts p 0)
            (get_or (set counts q c) p 0)
        follows p l o (inl e) = rw (e, next-own, count-own) moved.follows
        follows p l o (inr n) =
            rw (get_or-set_other nexts q p at 0 n, get_or-set_other counts q p c 0 n) (x.follows p l o)

        stands : (p : ℕ) → p < t.workers → (p ≡ q) ⊎ (p ≢ q)
            → (p is_in bit_or rest freed) ⊎ Stopped t a events' waiting' p (next_of t (set counts q c) p)
        stands p l (inl e) = rw (e, count-own) (elim (g.stopped t a moved.follows) [
          | inl i ↦ inl (in_right rest freed i)
          | inr i ↦ inr i
        ])
        stands p l (inr n) = rw (get_or-set_other counts q p c 0 n) (go (x.stands p l))
          where
            go : (p is_in ready) ⊎ Stopped t a events waiting p (next_of t counts p)
                → (p is_in bit_or rest freed) ⊎ Stopped t a events' waiting' p (next_of t counts p)
            go (inl i) = inl (in_left rest freed ((w.each p).1 (i, n)))
            go (inr i) = elim (still g.along.released i) [
              | inl j ↦ inl (in_right rest freed j)
              | inr j ↦ inr j
            ]

        turned-going : Going t a out (r ++ stretch t q (get_or counts q 0) (get_or (set counts q c) q 0)) list ends lasts
            (set nexts q at) (set counts q c) events' waiting' (bit_or rest freed)
        turned-going =
            rw count-own (record {
              run = moved.run;
              follows = λ p l o. follows p l o (equal? p q);
              awake = λ p i. elim (equal? p q) [
                | inl e ↦ rw e (x.awake q (inl first.here))
                | inr n ↦ x.awake p (was-awake p n i)
              ];
              stands = λ p l. stands p l (equal? p q);
            })

        -- the workers below q are not ready
        lower : (p : ℕ) → p < q → Stopped t a events waiting p (next_of t counts p)
        lower p l =
            let known = (x.awake q (inl first.here)).0 in
            elim (x.stands p (omega (arith, l, known))) [ inl i ↦ absurd (first.first p l i) | inr i ↦ i ]

        turned-lowest : masks.Below q below → LowestStretch t a q r counts (get_or (set counts q c) q 0)
        turned-lowest before =
            rw count-own
            (g.along.lowest t a r counts x.run own (record { first = before.all; stopped = lower }))

    pub turned : {orderly : Bool} → (orderly ≡ true → masks.Below q below) → bit_or rest freed < 65536
        → Turned list ends lasts orderly q nexts counts events waiting ready (set nexts q at) (set counts q c) events'
        waiting' (bit_or rest freed)
    turned before few =
        record {
          sized = turned-sized;
          falls = turned-falls few;
          others = λ p n. get_or-set_other counts q p c 0 n;
          going = λ t a out r x. (turned-going t a out r x, rw count-own (moved t a out r x).on);
          lowest = λ e t a out r x. turned-lowest t a out r x (before e);
        }

-- ---- one turn behind the other

pub walked_start : {list ends lasts nexts counts events waiting : List ℕ} {ready : ℕ}
    → Sized ends nexts
    → Walked list ends lasts nexts counts events waiting ready nexts counts events waiting ready
walked_start s = record { sized = s; going = λ t a out r x. ([], rw append-nil x) }

pub walked-turn : {list ends lasts n d e w n' d' e' w' n'' d'' e'' w'' : List ℕ} {r r' r'' q : ℕ} {orderly : Bool}
    → Walked list ends lasts n d e w r n' d' e' w' r' → Turned list ends lasts orderly q n' d' e' w' r' n'' d'' e'' w'' r''
    → Walked list ends lasts n d e w r n'' d'' e'' w'' r''
walked-turn {d' = d'} {d'' = d''} {q = q} x y =
    record {
      sized = y.sized;
      going = λ t a out r z.
          let (s, on) = x.going t a out r z in
          let more = stretch t q (get_or d' q 0) (get_or d'' q 0) in
          (s ++ more, rw (← append_assoc r s more) (y.going t a out (r ++ s) on).0);
    }

-- ---- the end

module _ {t : Trace} (f : Fits t) {a out : ℕ} {r list ends lasts nexts counts events waiting : List ℕ}
    (x : Going t a out r list ends lasts nexts counts events waiting 0) where
  -- where nobody is ready, nobody can go on
  all-blocked : (q : ℕ) → q < t.workers → Blocked t a events (next_of t counts q)
  all-blocked q l = elim (x.stands q l) [ inl i ↦ absurd (in-none i) | inr i ↦ stopped-blocked i ]

  -- so nothing but a can be added
  pub going-closed : Closed (without (rule t) a) (done [] r)
  going-closed = blocked-closed x.run.shows (ends-counted x.run) a f all-blocked

  pub going-exhausted : Exhausted t a r counts events
  going-exhausted = ends-exhausted x.run f all-blocked
