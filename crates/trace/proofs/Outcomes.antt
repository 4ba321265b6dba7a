-- How the questions of any call come out. In order: a refusal is no trace; a further question, and its number; what the
-- call's answer says, where `answer` makes it of how the questions come out.
use mathlib.Core.Bool.{Bool, true, false, ◌&&◌}
use mathlib.Core.List.Memᴰ
use mathlib.Core.List.{List, [], ◌∷◌, ◌++◌}
use mathlib.Core.Logic.Iff
use mathlib.Core.Logic.{◌⊎◌, ◌↔◌}
use mathlib.Core.Path.{◌≡◌, refl, sym, ap, ◌∙◌}
use Prim.Native.Nat.{ℕ, ◌<◌, ◌≤◌}
use lib.Dec.{leb, ltb}
use borrow.Author.Tests.{leb-true, leb-false, le-leb, lt-leb, ltb-true, ltb-false, lt-ltb, le-ltb}
use Rattle.basics.specs.Membership.{◌∈◌}
use Rattle.basics.proofs.Booleans.{zero_one, both-pass, one-fails}
use Rattle.std.specs.Prelude.{Result, Ok}
use Rattle.trace.specs.Answer.{counts, counts_of, answer_by}
use Rattle.trace.specs.declared.Counts.{Counts}
use Rattle.trace.specs.declared.Refusal.{Refusal}
use Rattle.trace.specs.Reading.{Reading, refused, reads, then_ask}
use Rattle.trace.specs.Refusals.{RefusedNext, by_earlier, by_this}
use Rattle.trace.specs.Trace.{Trace, size}

pub refused-reads : {q k : ℕ} {t : Trace} → refused q k ≡ reads t → ⊥
refused-reads e = zero_one cc

reads_same : {t u : Trace} → reads t ≡ reads u → t ≡ u
reads_same e = cc

-- ---- a further question

-- how the questions of a call come out: which traces they let pass, and which refusals there are
pub record ComesOut (r : Reading) (Passed : Trace → Type 0) (RefusedBy : ℕ → ℕ → Type 0) : Type 0 where
  pub passes : (t : Trace) → (r ≡ reads t) ↔ Passed t
  pub refuses : (q k : ℕ) → (r ≡ refused q k) ↔ RefusedBy q k

-- which traces they let pass, in other words
pub pass-as : {r : Reading} {Passed Other : Trace → Type 0} {RefusedBy : ℕ → ℕ → Type 0} → ComesOut r Passed RefusedBy
    → ((t : Trace) → Passed t ↔ Other t) → ComesOut r Other RefusedBy
pass-as c f = record { passes = λ t. Iff.trans (c.passes t) (f t); refuses = c.refuses }

-- what the answers of a question mean, for traces that the questions before let pass
pub record Meaning (Passed : Trace → Type 0) (holds : Trace → Bool) (Yes No : Trace → Type 0) : Type 0 where
  pub says-yes : (t : Trace) → Passed t → (holds t ≡ true) ↔ Yes t
  pub says-no : (t : Trace) → Passed t → (holds t ≡ false) ↔ No t

-- questions that ask whether one number is at most another, or below it
pub asks-at-most : {Passed : Trace → Type 0} (x y : Trace → ℕ)
    → Meaning Passed (λ t. leb (x t) (y t)) (λ t. x t ≤ y t) (λ t. y t < x t)
asks-at-most x y =
    record {
      says-yes = λ t h. (leb-true (x t) (y t), le-leb (x t) (y t));
      says-no = λ t h. (leb-false (x t) (y t), lt-leb (x t) (y t));
    }

pub asks-below : {Passed : Trace → Type 0} (x y : Trace → ℕ)
    → Meaning Passed (λ t. ltb (x t) (y t)) (λ t. x t < y t) (λ t. y t ≤ x t)
asks-below x y =
    record {
      says-yes = λ t h. (ltb-true (x t) (y t), lt-ltb (x t) (y t));
      says-no = λ t h. (ltb-false (x t) (y t), le-ltb (x t) (y t));
    }

-- a question that asks two things
pub asks_both : {Passed : Trace → Type 0} {f g : Trace → Bool} {Yes No Yes' No' : Trace → Type 0}
    → Meaning Passed f Yes No → Meaning Passed g Yes' No'
    → Meaning Passed (λ t. f t && g t) (λ t. Yes t × Yes' t) (λ t. No t ⊎ No' t)
asks_both {f = f} {g = g} p q =
    record {
      says-yes = λ t h. both-pass (f t) (g t) (p.says-yes t h) (q.says-yes t h);
      says-no = λ t h. one-fails (f t) (g t) (p.says-no t h) (q.says-no t h);
    }

module _ (number : ℕ) {holds : Trace → Bool} (place : Trace → ℕ) {Passed Yes No : Trace → Type 0}
    (asked : Meaning Passed holds Yes No) where
  asked-reads : {RefusedBy : ℕ → ℕ → Type 0} (r : Reading) → ComesOut r Passed RefusedBy → (t : Trace)
      → (then_ask number holds place r ≡ reads t) ↔ (Passed t × Yes t)
  asked-reads r c t = (forth r c, back)
    where
      forth : {RefusedBy : ℕ → ℕ → Type 0} (s : Reading) → ComesOut s Passed RefusedBy
          → then_ask number holds place s ≡ reads t → Passed t × Yes t
      forth (refused q k) o e = absurd (refused-reads e)
      forth (reads u) o e = go (holds u) refl e
        where
          go : (b : Bool) → holds u ≡ b → then_ask number holds place (reads u) ≡ reads t → Passed t × Yes t
          go true i z =
              let equal : u ≡ t = reads_same (rw i at z) in
              let p = (o.passes t).0 (rw equal) in
              (p, (asked.says-yes t p).0 (rw (← equal) i))
          go false i z = absurd (refused-reads (rw i at z))

      back : Passed t × Yes t → then_ask number holds place r ≡ reads t
      back p = rw ((c.passes t).1 p.0) (simp ((asked.says-yes t p.0).1 p.1))

  asked-refused : {RefusedBy : ℕ → ℕ → Type 0} (r : Reading) → ComesOut r Passed RefusedBy → (q k : ℕ)
      → (then_ask number holds place r ≡ refused q k) ↔ RefusedNext RefusedBy Passed number No place q k
  asked-refused {RefusedBy} r c q k = (forth r c, back)
    where
      forth : (s : Reading) → ComesOut s Passed RefusedBy → then_ask number holds place s ≡ refused q k
          → RefusedNext RefusedBy Passed number No place q k
      forth (refused x y) o e = by_earlier ((o.refuses q k).0 e)
      forth (reads u) o e = go (holds u) refl e
        where
          go : (b : Bool) → holds u ≡ b → then_ask number holds place (reads u) ≡ refused q k
              → RefusedNext RefusedBy Passed number No place q k
          go true i z = absurd (refused-reads (sym (rw i at z)))
          go false i z =
              let same : refused number (place u) ≡ refused q k = rw i at z in
              let number_is : q ≡ number = cc in
              let place_is : k ≡ place u = cc in
              let p = (o.passes u).0 refl in
              by_this u p ((asked.says-no u p).0 i) number_is place_is

      back : RefusedNext RefusedBy Passed number No place q k → then_ask number holds place r ≡ refused q k
      back (by_earlier b) = rw ((c.refuses q k).1 b)
      back (by_this t p n i j) = rw ((c.passes t).1 p, i, j) (simp ((asked.says-no t p).1 n))

  -- asked behind other questions
  pub ask-next : {r : Reading} {RefusedBy : ℕ → ℕ → Type 0} → ComesOut r Passed RefusedBy
      → ComesOut (then_ask number holds place r) (λ t. Passed t × Yes t) (RefusedNext RefusedBy Passed number No place)
  ask-next {r} c = record { passes = asked-reads r c; refuses = asked-refused r c }

-- the numbers of refusals: those of the questions before, and this one's
pub next-number : (before : List ℕ) {Before : ℕ → ℕ → Type 0} {Passed No : Trace → Type 0} {place : Trace → ℕ}
    {number q k : ℕ} → (Before q k → q ∈ before) → RefusedNext Before Passed number No place q k
    → q ∈ before ++ number ∷ []
next-number before {number = number} f (by_earlier r) = Memᴰ.append_left (number ∷ []) (f r)
next-number before f (by_this t p l n z) = Memᴰ.append_right before (Memᴰ.head n)

-- ---- what the answer says

module _ {X : Type 0} (answer : Reading → X) where
  -- the answer tells a refusal from a trace, and which refusal it is
  pub record TellsRefusals : Type 0 where
    pub apart : (q k : ℕ) (t : Trace) → answer (reads t) ≡ answer (refused q k) → ⊥
    pub same : (q k x y : ℕ) → answer (refused x y) ≡ answer (refused q k) → refused x y ≡ refused q k

  pub outcome-refused : TellsRefusals → (r : Reading) (q k : ℕ) → (answer r ≡ answer (refused q k)) ↔ (r ≡ refused q k)
  outcome-refused h r q k = (forth r, λ e. ap answer e)
    where
      forth : (s : Reading) → answer s ≡ answer (refused q k) → s ≡ refused q k
      forth (refused x y) a = h.same q k x y a
      forth (reads t) a = absurd (h.apart q k t a)

  -- an answer that no refusal has
  pub outcome-reads : {x : X} → ((q k : ℕ) → answer (refused q k) ≡ x → ⊥) → (r : Reading) → answer r ≡ x
      → (t : Trace) × (r ≡ reads t) × (answer (reads t) ≡ x)
  outcome-reads f (refused q k) a = absurd (f q k a)
  outcome-reads f (reads t) a = (t, refl, a)

  -- such an answer, where t is the only trace that can pass
  pub outcome-passes : {x : X} → ((q k : ℕ) → answer (refused q k) ≡ x → ⊥) → {r : Reading} {Passed : Trace → Type 0}
      {RefusedBy : ℕ → ℕ → Type 0} → ComesOut r Passed RefusedBy → {t : Trace} → ((u : Trace) → Passed u → u ≡ t)
      → (answer r ≡ x) ↔ (Passed t × (answer (reads t) ≡ x))
  outcome-passes f {r} c {t} only = (
    λ a.
        let (u, e, i) = outcome-reads f r a in
        let p = (c.passes u).0 e in
        (rw (only u p) at p, rw (only u p) at i),
    λ p. ap answer ((c.passes t).1 p.0) ∙ p.1,
  )

-- ---- a result that is a refusal, or what is said of the trace

pub tells-refusals : {A : Type 0} (said : Trace → A) → TellsRefusals (answer_by said)
tells-refusals said = record { apart = λ q k t z. zero_one cc; same = λ q k x y z. same q k x y z }
  where
    same : (q k x y : ℕ) → answer_by said (refused x y) ≡ answer_by said (refused q k) → refused x y ≡ refused q k
    same q k x y z =
        let e : ◌≡◌ {A = Refusal} (record { number = x; place = y }) (record { number = q; place = k }) = cc in
        ap (λ (r : Refusal). refused r.number r.place) e

pub refuses-nothing : {A : Type 0} (said : Trace → A) (x : A) (q k : ℕ) → answer_by said (refused q k) ≡ Ok x → ⊥
refuses-nothing said x q k e = zero_one cc

-- what two like results say
pub same-result : {A : Type 0} {x y : A} → ◌≡◌ {A = Result A Refusal} (Ok x) (Ok y) → x ≡ y
same-result e = cc

pub same-counts : (t : Trace) {p n : ℕ} → ◌≡◌ {A = Result Counts Refusal} (Ok (counts_of t)) (Ok (counts p n))
    → (t.workers ≡ p) × (size t ≡ n)
same-counts t e =
    let i = same-result e in
    (ap (λ (c : Counts). c.workers) i, ap (λ (c : Counts). c.operations) i)
