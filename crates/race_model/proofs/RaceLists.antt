-- The race list. In order: its equations, from pair to pair; along them, what stands in it, and how many; what comes
-- before a pair is its beginning; it holds exactly the races, ascending.
use mathlib.Core.Bool.{Bool, true, false}
use mathlib.Core.List.{List, [], ◌∷◌, ◌++◌, append-nil, append_assoc, Memᴰ}
use mathlib.Core.Logic.{inl, inr, ◌↔◌}
use mathlib.Core.Path.{◌≡◌, refl, sym, ap, ◌∙◌}
use native.Mathlib.Nat.{suc-mul}
use native.Mathlib.Omega.{arith}
use Prim.Native.Nat.{ℕ, zero, suc, ◌+◌, ◌*◌, ◌<◌, ◌≤◌}
use lib.ListN.{length, get_or, length-append, get_or-append}
use lib.Seq.{get_or-append_seam}
use Rattle.basics.proofs.Booleans.{equal?, less?}
use Rattle.runs.proofs.Places.{get_d-in, in-get_d}
use Rattle.trace.specs.Trace.{Trace, size}
use Rattle.model.specs.Rule.{WorkersKnown}
use Rattle.race_model.specs.declared.Race.{Race}
use Rattle.race_model.specs.Race.{RaceIn, Ahead, lower_first, then_higher, Ascending}
use Rattle.race_model.specs.RaceList.{is_race, pair, races_of, races_below, race_list, race_count, no_race}
use Rattle.race_model.specs.RaceList.{races_before}
use Rattle.race_model.proofs.RaceTests.{race-test, race-ascending, race-below, no-race-ahead}

module _ (t : Trace) where
  -- ---- from pair to pair

  pub before-start : races_before t 0 0 ≡ []
  unfolding races_of races_below
  before-start = refl

  before-race : (a b : ℕ) → is_race t a b ≡ true → races_before t a (suc b) ≡ races_before t a b ++ pair a b ∷ []
  unfolding races_of
  before-race a b e = rw e

  before-none : (a b : ℕ) → is_race t a b ≡ false → races_before t a (suc b) ≡ races_before t a b
  unfolding races_of
  before-none a b e = rw e (append-nil (races_before t a b))

  pub before-next : (a : ℕ) → races_before t (suc a) 0 ≡ races_before t a (size t)
  unfolding races_of races_below
  before-next a = refl

  before-all : races_before t (size t) 0 ≡ race_list t
  unfolding races_of race_list
  before-all = refl

  -- no races from b on and below c
  pub before_same : (a b c : ℕ) → b ≤ c → ((k : ℕ) → b ≤ k → k < c → is_race t a k ≡ false)
      → races_before t a c ≡ races_before t a b
  before_same a b zero l f = ap (λ (k : ℕ). races_before t a k) (omega arith)
  before_same a b (suc c) l f = elim (equal? b (suc c)) [
    | inl e ↦ ap (λ (k : ℕ). races_before t a k) (sym e)
    | inr d ↦
        let le : b ≤ c = omega (arith, d) in
        before-none a c (f c le (omega arith)) ∙ before_same a b c le (λ k i j. f k i (omega arith))
  ]

  -- a pair has no race before it with an operation up to its lower one
  pub before-ahead : (a b : ℕ) → b ≤ suc a → races_before t a b ≡ races_before t a 0
  before-ahead a b l = before_same a 0 b (omega arith) (λ k i j. no-race-ahead t a k (omega arith))

  -- what holds before the first pair, and goes on from pair to pair, holds before all
  module _ {P : ℕ → ℕ → Type 0} (start : P 0 0) (on : (a b : ℕ) → P a b → P a (suc b))
      (next : (a : ℕ) → P a (size t) → P (suc a) 0) where
    along : (a : ℕ) → P a 0 → (b : ℕ) → P a b
    along a p zero = p
    along a p (suc b) = on a b (along a p b)

    along-all : (a : ℕ) → P a 0
    along-all zero = start
    along-all (suc a) = next a (along a (along-all a) (size t))

    before-each : (a b : ℕ) → P a b
    before-each a b = along a (along-all a) b

  -- ---- what stands in it, and how many

  -- record i of the races before a pair: a race, ahead of the pair
  pub record Placed (a b : ℕ) (r : Race) : Type 0 where
    pub race : is_race t r.lower r.higher ≡ true
    pub ahead : Ahead r (pair a b)

  -- the races l before a pair
  pub record Scanned (a b : ℕ) (l : List Race) : Type 0 where
    pub placed : (i : ℕ) (d : Race) → i < length l → Placed a b (get_or l i d)
    pub ascending : Ascending l
    pub few : length l ≤ a * size t + b

  scanned-none : Scanned 0 0 (races_before t 0 0)
  unfolding races_of races_below
  scanned-none =
      record {
        placed = λ i d l. absurd (omega (arith, l));
        ascending = λ i j d h l. absurd (omega (arith, l));
        few = omega arith;
      }

  -- the same races are before a pair that comes later
  scanned-as : {a b c e : ℕ} {l : List Race} → ((r : Race) → Ahead r (pair a b) → Ahead r (pair c e))
      → a * size t + b ≤ c * size t + e → Scanned a b l → Scanned c e l
  scanned-as {a} {b} {c} {e} {l} f h s =
      record { placed = placed; ascending = s.ascending; few = omega (arith, s.few) }
    where
      placed : (i : ℕ) (d : Race) → i < length l → Placed c e (get_or l i d)
      placed i d j =
          let p = s.placed i d j in
          record { race = p.race; ahead = f (get_or l i d) p.ahead }

  ahead-on : {a b : ℕ} (r : Race) → Ahead r (pair a b) → Ahead r (pair a (suc b))
  ahead-on r (lower_first l) = lower_first l
  ahead-on r (then_higher e l) = then_higher e (omega (arith, l))

  ahead-next : {a n : ℕ} (r : Race) → Ahead r (pair a n) → Ahead r (pair (suc a) 0)
  ahead-next r (lower_first l) = lower_first (omega (arith, l))
  ahead-next r (then_higher e l) = lower_first (omega (arith, e))

  -- the pair is a race
  scanned-race : (a b : ℕ) → is_race t a b ≡ true → Scanned a b (races_before t a b)
      → Scanned a (suc b) (races_before t a b ++ pair a b ∷ [])
  scanned-race a b e s =
      record { placed = placed; ascending = ascending; few = simp length-append (omega (arith, s.few)) }
    where
      l : List Race
      l = races_before t a b

      more : List Race
      more = races_before t a b ++ pair a b ∷ []

      long : length more ≡ suc (length l)
      long = simp length-append (omega arith)

      front : (i : ℕ) (d : Race) → i < length l → get_or more i d ≡ get_or l i d
      front i d h = get_or-append l (pair a b ∷ []) d i h

      last : (d : Race) → get_or more (length l) d ≡ pair a b
      last d = get_or-append_seam l (pair a b) [] d

      placed : (i : ℕ) (d : Race) → i < length more → Placed a (suc b) (get_or more i d)
      placed i d h = elim (less? i (length l)) [
        | inl j ↦
            let p = s.placed i d j in
            rw (front i d j) (record { race = p.race; ahead = ahead-on _ p.ahead })
        | inr j ↦
            let same : i ≡ length l = omega (arith, h, long) in
            rw (same, last d) (record { race = e; ahead = then_higher refl (omega arith) })
      ]

      ascending : Ascending more
      ascending i j d h k = elim (less? j (length l)) [
        | inl x ↦ rw (front i d (omega arith), front j d x) (s.ascending i j d h x)
        | inr x ↦
            let same : j ≡ length l = omega (arith, k, long) in
            rw (same, last d, front i d (omega arith)) (s.placed i d (omega arith)).ahead
      ]

  scanned : (a b : ℕ) → Scanned a b (races_before t a b)
  scanned = before-each scanned-none on next
    where
      on : (a b : ℕ) → Scanned a b (races_before t a b) → Scanned a (suc b) (races_before t a (suc b))
      on a b s = go (is_race t a b) refl
        where
          go : (r : Bool) → is_race t a b ≡ r → Scanned a (suc b) (races_before t a (suc b))
          go true e = rw (before-race a b e) (scanned-race a b e s)
          go false e = rw (before-none a b e) (scanned-as ahead-on (omega arith) s)

      next : (a : ℕ) → Scanned a (size t) (races_before t a (size t)) → Scanned (suc a) 0 (races_before t (suc a) 0)
      next a s = rw (before-next a) (scanned-as ahead-next (omega (arith, suc-mul a (size t))) s)

  list-scanned : Scanned (size t) 0 (race_list t)
  list-scanned = rw (← before-all) (scanned (size t) 0)

  -- ---- what comes before a pair is the list's beginning

  record Starts (l m : List Race) : Type 0 where
    rest : List Race
    whole : m ≡ l ++ rest

  starts-same : {l m : List Race} → m ≡ l → Starts l m
  starts-same {l} e = record { rest = []; whole = e ∙ sym (append-nil l) }

  starts-trans : {l m k : List Race} → Starts l m → Starts m k → Starts l k
  starts-trans {l} s u =
      record { rest = s.rest ++ u.rest; whole = u.whole ∙ rw s.whole (append_assoc l s.rest u.rest) }

  starts-on : (a b : ℕ) → Starts (races_before t a b) (races_before t a (suc b))
  starts-on a b = go (is_race t a b) refl
    where
      go : (r : Bool) → is_race t a b ≡ r → Starts (races_before t a b) (races_before t a (suc b))
      go true e = record { rest = pair a b ∷ []; whole = before-race a b e }
      go false e = starts-same (before-none a b e)

  starts-row : (a b c : ℕ) → b ≤ c → Starts (races_before t a b) (races_before t a c)
  starts-row a b zero l = starts-same (ap (λ (k : ℕ). races_before t a k) (omega arith))
  starts-row a b (suc c) l = elim (equal? b (suc c)) [
    | inl e ↦ starts-same (ap (λ (k : ℕ). races_before t a k) (sym e))
    | inr d ↦ starts-trans (starts-row a b c (omega (arith, d))) (starts-on a c)
  ]

  starts-rows : (a c : ℕ) → a ≤ c → Starts (races_before t a 0) (races_before t c 0)
  starts-rows a zero l = starts-same (ap (λ (k : ℕ). races_before t k 0) (omega arith))
  starts-rows a (suc c) l = elim (equal? a (suc c)) [
    | inl e ↦ starts-same (ap (λ (k : ℕ). races_before t k 0) (sym e))
    | inr d ↦
        starts-trans
        (starts-rows a c (omega (arith, d)))
        (rw (before-next c) (starts-row c 0 (size t) (omega arith)))
  ]

  -- behind what comes before a race, the race
  pub list_at : (a b : ℕ) → is_race t a b ≡ true → (d : Race)
      → (length (races_before t a b) < race_count t) × (get_or (race_list t) (length (races_before t a b)) d ≡ pair a b)
  list_at a b e d = (rw whole long, rw whole (get_or-append_seam (races_before t a b) (pair a b) s.rest d))
    where
      s : Starts (races_before t a (suc b)) (race_list t)
      s =
          let row = starts-row a (suc b) (size t) (race-below t a b e) in
          let below : suc a ≤ size t = omega (arith, race-below t a b e, race-ascending t a b e) in
          rw (← before-all) (starts-trans row (rw (← before-next a) (starts-rows (suc a) (size t) below)))

      whole : race_list t ≡ races_before t a b ++ pair a b ∷ s.rest
      whole =
          s.whole
          ∙ ap (λ (l : List Race). l ++ s.rest) (before-race a b e)
          ∙ append_assoc (races_before t a b) (pair a b ∷ []) s.rest

      long : length (races_before t a b) < length (races_before t a b ++ pair a b ∷ s.rest)
      long = simp length-append (omega arith)

  -- ---- exactly the races, ascending

  pub list-ascending : Ascending (race_list t)
  list-ascending = list-scanned.ascending

  pub list-few : race_count t ≤ size t * size t
  list-few = omega (arith, list-scanned.few)

  -- record i of the list is a race
  pub list-race : (i : ℕ) (d : Race) → i < race_count t
      → is_race t (get_or (race_list t) i d).lower (get_or (race_list t) i d).higher ≡ true
  list-race i d l = (list-scanned.placed i d l).race

-- in the list exactly if it is a race
pub list-exactly : {t : Trace} → WorkersKnown t → (a b : ℕ) → Memᴰ (pair a b) (race_list t) ↔ RaceIn t a b
list-exactly {t} w a b = (forth, back)
  where
    forth : Memᴰ (pair a b) (race_list t) → RaceIn t a b
    forth m =
        let (i, l, e) = in-get_d m (no_race t) in
        (race-test t a b w).0 (rw e at (list-race t i (no_race t) l))

    back : RaceIn t a b → Memᴰ (pair a b) (race_list t)
    back r =
        let (l, e) = list_at t a b ((race-test t a b w).1 r) (no_race t) in
        rw e at (get_d-in (race_list t) (length (races_before t a b)) (no_race t) l)
