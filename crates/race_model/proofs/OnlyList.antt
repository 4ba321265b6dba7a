-- The list of races holds exactly the races, ascending, and no other list does.
use mathlib.Core.List.{List, [], ◌∷◌, Memᴰ}
use mathlib.Core.Logic.{◌↔◌}
use mathlib.Core.Path.{◌≡◌, refl, sym, ◌∙◌}
use native.Mathlib.Omega.{arith}
use Prim.Native.Nat.{suc}
use Rattle.runs.proofs.Places.{in-get_d}
use Rattle.trace.specs.Trace.{Trace}
use Rattle.model.specs.Rule.{WorkersKnown}
use Rattle.race_model.specs.declared.Race.{Race}
use Rattle.race_model.specs.Race.{Ahead, lower_first, then_higher, Ascending, RaceListOf}
use Rattle.race_model.specs.RaceList.{race_list}
use Rattle.race_model.proofs.RaceLists.{list-exactly, list-ascending}

pub list_of : {t : Trace} → WorkersKnown t → RaceListOf t (race_list t)
list_of {t} w =
    record { exactly = λ r. list-exactly w r.lower r.higher; ascending = list-ascending t }

ahead-once : {r s : Race} → Ahead r s → Ahead s r → ⊥
ahead-once (lower_first l) (lower_first m) = omega arith
ahead-once (lower_first l) (then_higher e m) = omega (arith, e)
ahead-once (then_higher e l) (lower_first m) = omega (arith, e)
ahead-once (then_higher e l) (then_higher i m) = omega arith

-- the first record is ahead of all others, and those ascend
ascending-head : {x z : Race} {l : List Race} → Ascending (x ∷ l) → Memᴰ z l → Ahead x z
ascending-head {x} {z} {l} a m =
    let (i, h, e) = in-get_d m x in
    rw e at (a 0 (suc i) x (omega arith) (omega (arith, h)))

ascending-tail : (x : Race) (l : List Race) → Ascending (x ∷ l) → Ascending l
ascending-tail x l a i j d h k = a (suc i) (suc j) d (omega (arith, h)) (omega (arith, k))

-- two lists that start with the same record, the first ascending: if the second holds all records of the first, what
-- follows the record in the first follows it in the second
behind-first : {x y : Race} {l m : List Race} → x ≡ y → Ascending (x ∷ l)
    → ((r : Race) → Memᴰ r (x ∷ l) → Memᴰ r (y ∷ m)) → (r : Race) → Memᴰ r l → Memᴰ r m
behind-first {x} {y} {l} {m} same a f r h = go (f r (Memᴰ.tail h))
  where
    go : Memᴰ r (y ∷ m) → Memᴰ r m
    go (Memᴰ.tail k) = k
    go (Memᴰ.head e) =
        let again : Ahead x x = rw (e ∙ sym same) at (ascending-head a h) in
        absurd (ahead-once again again)

-- two lists that ascend and hold the same records are equal
ascending-same : (l m : List Race) → Ascending l → Ascending m → ((r : Race) → Memᴰ r l ↔ Memᴰ r m) → l ≡ m
ascending-same [] [] a b f = refl
ascending-same [] (y ∷ m) a b f = elim ((f y).1 (Memᴰ.head refl)) [ ]
ascending-same (x ∷ l) [] a b f = elim ((f x).0 (Memᴰ.head refl)) [ ]
ascending-same (x ∷ l) (y ∷ m) a b f =
    rw (same, ascending-same l m (ascending-tail x l a) (ascending-tail y m b) tails)
  where
    first : Memᴰ x (y ∷ m) → Memᴰ y (x ∷ l) → x ≡ y
    first (Memᴰ.head e) k = e
    first (Memᴰ.tail h) (Memᴰ.head e) = sym e
    first (Memᴰ.tail h) (Memᴰ.tail k) = absurd (ahead-once (ascending-head a k) (ascending-head b h))

    same : x ≡ y
    same = first ((f x).0 (Memᴰ.head refl)) ((f y).1 (Memᴰ.head refl))

    tails : (r : Race) → Memᴰ r l ↔ Memᴰ r m
    tails r = (behind-first same a (λ s. (f s).0) r, behind-first (sym same) b (λ s. (f s).1) r)

pub list-only : {t : Trace} {l : List Race} → WorkersKnown t → RaceListOf t l → l ≡ race_list t
list-only {t} {l} w h = ascending-same l (race_list t) h.ascending o.ascending (λ r. (
  λ m. (o.exactly r).1 ((h.exactly r).0 m),
  λ m. (h.exactly r).1 ((o.exactly r).0 m),
))
  where
    o : RaceListOf t (race_list t)
    o = list_of w
