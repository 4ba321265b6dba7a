-- Lists cut at an operation a, which is left out: entry s of its worker's list, the first that does not stand before a,
-- becomes the list's end, with a's earlier operations. In order: another worker's list; its own, cut; made whole again.
use mathlib.Core.List.{List}
use mathlib.Core.Logic.{◌⊎◌, inl, inr, ◌≢◌}
use mathlib.Core.Path.{◌≡◌, sym, ap, ◌∙◌}
use native.Mathlib.Omega.{arith}
use Prim.Native.Nat.{ℕ, ◌+◌, ◌-◌, ◌<◌, ◌≤◌}
use lib.ListN.{get_or}
use Rattle.basics.proofs.Booleans.{equal?, less?}
use Rattle.runs.specs.Workers.{earlier}
use Rattle.trace.specs.Trace.{Trace, size, worker_of}
use Rattle.index.specs.Steps.{operation_at, ahead, Plain, Between, reached, Step, Follows}
use Rattle.index.proofs.Covering.{reached-in, reached-end, ends-trace, ends-left-out, ends-cases}
use Rattle.index.proofs.Operations.{at-rth, at_most, at-inside}
use Rattle.courses.specs.Courses.{Entry}

-- ---- where a was left out, and b is now, neither of worker q's operations there

module _ (t : Trace) (a b q : ℕ) (new : (j : ℕ) → operation_at t q j < size t → operation_at t q j ≢ b) where
  plain_other : (j : ℕ) → Plain t a (operation_at t q j) → Plain t b (operation_at t q j)
  plain_other j p =
      record { below = p.below; other = new j p.below; needed = p.needed; posted = p.posted }

  pub between-other : {i j : ℕ} → Between t a q i j → Between t b q i j
  between-other x = record { on = x.on; each = λ m h l. plain_other m (x.each m h l) }

  step_other : {list : List ℕ} {end last s : ℕ} → Step t a list q end last s → Step t b list q end last s
  step_other {list} {s = s} y =
      record {
        few = y.few;
        below = y.below;
        other = new (ahead (get_or list s 0)) y.below;
        tells = y.tells;
        next = between-other y.next;
      }

  pub follows-other : {list : List ℕ} {from end last i : ℕ}
      → (operation_at t q last ≡ a → operation_at t q last ≡ size t)
      → Follows t a list q from end last i → Follows t b list q from end last i
  follows-other old x =
      record {
        up_to_end = x.up_to_end;
        first = between-other x.first;
        each = λ s h l. step_other (x.each s h l);
        ending = elim (ends-cases x.ending) [ inl e ↦ ends-trace b e | inr e ↦ ends-trace b (old e) ];
      }

-- an operation of another worker is none of q's
pub apart_other : (t : Trace) (q b : ℕ) → worker_of t b ≢ q → (j : ℕ) → operation_at t q j < size t
    → operation_at t q j ≢ b
apart_other t q b d j l e = d (ap (worker_of t) (sym e) ∙ (at-rth t q j l).own)

-- and a list that ends before it ends with the worker's operations
pub ends-other : (t : Trace) (q a : ℕ) → worker_of t a ≢ q → (j : ℕ) → operation_at t q j ≡ a → operation_at t q j ≡ size t
ends-other t q a d j e = elim (less? (operation_at t q j) (size t)) [
  | inl l ↦ absurd (apart_other t q a d j l e)
  | inr l ↦ omega (arith, l, at_most t q j)
]

-- ---- the worker's own list

module _ {t : Trace} {list : List ℕ} {q first end last : ℕ} (x : Follows t (size t) list q first end last 0)
    {a prior s : ℕ}
    (here : operation_at t q prior ≡ a) (below : a < size t) (y : Entry list first end prior s) where
  -- a stands at the entry, or before it
  past : prior ≤ reached list end last s
  past = go (less? s end) (less? last prior) (ends-cases x.ending)
    where
      go : (s < end) ⊎ (end ≤ s) → (last < prior) ⊎ (prior ≤ last)
          → (operation_at t q last ≡ size t) ⊎ (operation_at t q last ≡ size t) → prior ≤ reached list end last s
      go (inl l) h e = rw (reached-in list last l) (y.past l)
      go (inr l) (inr h) e = rw (reached-end list last l) h
      go (inr l) (inl h) e =
          let inside = at-inside t q prior last (rw here below) (omega arith) in
          absurd (elim e [ inl z ↦ omega (arith, inside, z) | inr z ↦ omega (arith, inside, z) ])

  other : (m : ℕ) → m < prior → operation_at t q m < size t → operation_at t q m ≢ a
  other m l h e =
      let r = at-rth t q m h in
      let i = at-rth t q prior (rw here below) in
      omega (arith, l, sym r.ahead ∙ ap (earlier (worker_of t)) (e ∙ sym here) ∙ i.ahead)

  -- up to a
  between-cut : {b c d : ℕ} → Between t (size t) q b c → b ≤ d → d ≤ c → d ≤ prior → Between t a q b d
  between-cut {b} {c} {d} z h l k =
      record {
        on = h;
        each = λ m i j.
            let p = z.each m i (omega arith) in
            record {
              below = p.below;
              other = other m (omega arith) p.below;
              needed = p.needed;
              posted = p.posted;
            };
      }

  cut-to : {b j : ℕ} → first ≤ j → j ≤ s → b ≤ prior → Between t (size t) q b (reached list end last j)
      → Between t a q b (reached list s prior j)
  cut-to {b} {j} f l h z = elim (less? j s) [
    | inl k ↦
        let lower = y.before j f k in
        let z' = rw (reached-in list {end = end} last {s = j} (omega (arith, k, y.up_to_end))) at z in
        rw (reached-in list prior k) (between-cut z' z'.on (omega arith) (omega (arith, lower)))
    | inr k ↦
        let e : j ≡ s = omega (arith, k) in
        rw (reached-end list prior k) (between-cut (rw e at z) h past (omega arith))
  ]

  pub cut-own : Follows t a list q first s prior 0
  cut-own =
      record {
        up_to_end = y.from_on;
        first = cut-to (omega arith) y.from_on (omega arith) x.first;
        each = each;
        ending = ends-left-out (size t) here;
      }
    where
      each : (j : ℕ) → first ≤ j → j < s → Step t a list q s prior j
      each j f l =
          let z = x.each j f (omega (arith, y.up_to_end)) in
          let lower = y.before j f l in
          record {
            few = z.few;
            below = z.below;
            other = other (ahead (get_or list j 0)) lower z.below;
            tells = z.tells;
            next = cut-to {j = j + 1} (omega arith) (omega arith) (omega (arith, lower)) z.next;
          }

  -- ---- made whole again

  -- behind a, up to the entry
  rest : (m : ℕ) → prior ≤ m → m < reached list end last s → Plain t (size t) (operation_at t q m)
  rest m h l = elim (equal? s first) [
    | inl e ↦ x.first.each m (omega arith) (rw (← e) l)
    | inr n ↦
        let up = y.from_on in
        let f : first ≤ s - 1 = omega (arith, up, n) in
        let k : s - 1 < s = omega (arith, up, n) in
        let e : s - 1 + 1 ≡ s = omega (arith, k) in
        let lower = y.before (s - 1) f k in
        let z = rw e at (x.each (s - 1) f (omega (arith, k, y.up_to_end))).next in
        z.each m (omega (arith, lower, h)) l
  ]

  no_size : (j : ℕ) → operation_at t q j < size t → operation_at t q j ≢ size t
  no_size j l e = omega (arith, l, e)

  whole_to : {b : ℕ} (j : ℕ) → j ≤ s → Between t a q b (reached list s prior j)
      → Between t (size t) q b (reached list end last j)
  whole_to {b} j l z = elim (less? j s) [
    | inl k ↦
        rw (reached-in list {end = end} last {s = j} (omega (arith, k, y.up_to_end)))
        (between-other t a (size t) q no_size (rw (reached-in list prior k) at z))
    | inr k ↦
        let e : j ≡ s = omega (arith, k) in
        rw e (on (rw (reached-end list prior k) at z))
  ]
    where
      on : Between t a q b prior → Between t (size t) q b (reached list end last s)
      on z = record { on = omega (arith, z.on, past); each = each }
        where
          each : (m : ℕ) → b ≤ m → m < reached list end last s → Plain t (size t) (operation_at t q m)
          each m h l = elim (less? m prior) [
            | inl k ↦ (between-other t a (size t) q no_size z).each m h k
            | inr k ↦ rest m k l
          ]

  pub cut-whole : {from i : ℕ} → Follows t a list q from s prior i → Follows t (size t) list q from end last i
  cut-whole {from} {i} z =
      record {
        up_to_end = omega (arith, z.up_to_end, y.up_to_end);
        first = whole_to from z.up_to_end z.first;
        each = λ j f l. each j f l (less? j s);
        ending = x.ending;
      }
    where
      each : (j : ℕ) → from ≤ j → j < end → (j < s) ⊎ (s ≤ j) → Step t (size t) list q end last j
      each j f l (inl k) =
          let o = z.each j f k in
          record {
            few = o.few;
            below = o.below;
            other = no_size (ahead (get_or list j 0)) o.below;
            tells = o.tells;
            next = whole_to (j + 1) (omega arith) o.next;
          }
      each j f l (inr k) = x.each j (omega (arith, k, y.from_on)) l
