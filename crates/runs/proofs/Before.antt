-- Laws of "stands before". In order: at the front of a list; both stand in it; across `◌++◌`; of two different
-- operations of a list one stands before the other, and where no operation stands twice not both; what stands before
-- x; renumbered operations.
use mathlib.Core.Path.{◌≡◌, refl, sym, ◌∙◌, ap}
use mathlib.Core.List.Memᴰ
use mathlib.Core.List.{List, [], ◌∷◌, ◌++◌}
use mathlib.Core.List.{map, map-append}
use mathlib.Core.Logic.{◌⊎◌, inl, inr, ◌≢◌}
use Prim.Native.Nat.{ℕ}
use Rattle.basics.specs.Membership.{◌∈◌, Different, empty, fresh}
use Rattle.basics.proofs.Members.{here, there}
use Rattle.runs.specs.Run.{StandsBefore}

module _ {a b : ℕ} where
  pub before_here : {l : List ℕ} → b ∈ l → StandsBefore a b (a ∷ l)
  before_here {l} m = record { before = []; after = l; split = refl; later = m }

  pub before-there : {x : ℕ} {l : List ℕ} → StandsBefore a b l → StandsBefore a b (x ∷ l)
  before-there {x} p =
      let split = ap (λ (r : List ℕ). x ∷ r) p.split in
      record { before = x ∷ p.before; after = p.after; split = split; later = p.later }

  -- a is at the front and b behind it, or both are behind the front
  pub before-cases : {x : ℕ} {l : List ℕ} → StandsBefore a b (x ∷ l) → ((a ≡ x) × (b ∈ l)) ⊎ StandsBefore a b l
  before-cases {x} {l} p = go p.before p.split
    where
      go : (u : List ℕ) → x ∷ l ≡ u ++ a ∷ p.after → ((a ≡ x) × (b ∈ l)) ⊎ StandsBefore a b l
      go [] e =
          let s : p.after ≡ l = cc in
          let f : a ≡ x = cc in
          inl (f, rw s at p.later)
      go (y ∷ u) e =
          let s : l ≡ u ++ a ∷ p.after = cc in
          inr (record { before = u; after = p.after; split = s; later = p.later })

  pub before-first : {l : List ℕ} → StandsBefore a b l → a ∈ l
  before-first p = rw p.split (Memᴰ.append_right p.before here)

  pub before-second : {l : List ℕ} → StandsBefore a b l → b ∈ l
  before-second p = rw p.split (Memᴰ.append_right p.before (there p.later))

  -- across the seam
  pub before-append : {r s : List ℕ} → a ∈ r → b ∈ s → StandsBefore a b (r ++ s)
  before-append (Memᴰ.head {xs = r} e) m = rw (← e) (before_here (Memᴰ.append_right r m))
  before-append (Memᴰ.tail k) m = before-there (before-append k m)

-- of two different operations of a list, one stands before the other
pub before-total : {a b : ℕ} {l : List ℕ} → a ≢ b → a ∈ l → b ∈ l → StandsBefore a b l ⊎ StandsBefore b a l
before-total d (Memᴰ.head i) (Memᴰ.head j) = absurd (d (i ∙ sym j))
before-total d (Memᴰ.head i) (Memᴰ.tail k) = inl (rw (← i) (before_here k))
before-total d (Memᴰ.tail k) (Memᴰ.head j) = inr (rw (← j) (before_here k))
before-total d (Memᴰ.tail k) (Memᴰ.tail j) =
    elim (before-total d k j) [ inl p ↦ inl (before-there p) | inr p ↦ inr (before-there p) ]

-- and where no operation stands twice, not both ways
pub before-asymmetric : {a b : ℕ} {l : List ℕ} → Different l → StandsBefore a b l → StandsBefore b a l → ⊥
before-asymmetric empty p q = elim (before-first p) [ ]
before-asymmetric {a} {b} (fresh {x = x} {l = l} n d) p q = go (before-cases p) (before-cases q) (before-asymmetric d)
  where
    go : ((a ≡ x) × (b ∈ l)) ⊎ StandsBefore a b l → ((b ≡ x) × (a ∈ l)) ⊎ StandsBefore b a l
        → (StandsBefore a b l → StandsBefore b a l → ⊥) → ⊥
    go (inl i) (inl j) f = n (rw i.0 at j.1)
    go (inl i) (inr j) f = n (rw i.0 at (before-second j))
    go (inr i) (inl j) f = n (rw j.0 at (before-second i))
    go (inr i) (inr j) f = f i j

-- where no operation stands twice, what stands before x is what lies in front of it
pub before-front : (u v : List ℕ) {r : List ℕ} {x y : ℕ} → r ≡ u ++ x ∷ v → Different r → StandsBefore y x r → y ∈ u
before-front u v {x = x} {y = y} e d p = go u (rw e at d) (rw e at p)
  where
    go : (u : List ℕ) → Different (u ++ x ∷ v) → StandsBefore y x (u ++ x ∷ v) → y ∈ u
    go [] (fresh n d) p = absurd (elim (before-cases p) [ inl i ↦ n i.1 | inr q ↦ n (before-second q) ])
    go (z ∷ u) (fresh n d) p = elim (before-cases p) [ inl i ↦ Memᴰ.head i.0 | inr q ↦ there (go u d q) ]

-- and all of that does
pub front-before : (u v : List ℕ) {r : List ℕ} {x y : ℕ} → r ≡ u ++ x ∷ v → y ∈ u → StandsBefore y x r
front-before u v e m = rw e (before-append m here)

-- renumbered operations stand as they stood
pub before-map : (f : ℕ → ℕ) {a b : ℕ} {l : List ℕ} → StandsBefore a b l → StandsBefore (f a) (f b) (map f l)
before-map f {a} p =
    record {
      before = map f p.before;
      after = map f p.after;
      split = ap (map f) p.split ∙ map-append f p.before (a ∷ p.after);
      later = Memᴰ.map f p.later;
    }
