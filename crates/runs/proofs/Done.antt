-- Laws of what is done: what was done before, and the steps.
use mathlib.Core.List.{List, [], ◌∷◌, ◌++◌}
use mathlib.Core.Path.{◌≡◌, refl}
use Prim.Native.Nat.{ℕ}
use Rattle.basics.specs.Membership.{◌⊆◌, SameOperations}
use Rattle.basics.proofs.Members.{here, ⊆-refl, ⊆-nil, ⊆-trans, ⊆-grow, ⊆-cons}
use Rattle.runs.specs.Steps.{done}

done-old : {d : List ℕ} (s : List ℕ) → d ⊆ done d s
done-old [] = ⊆-refl
done-old (x ∷ s) = ⊆-trans ⊆-grow (done-old s)

done-new : (d s : List ℕ) → s ⊆ done d s
done-new d [] = ⊆-nil
done-new d (x ∷ s) = ⊆-cons (done-new (x ∷ d) s) ((done-old s).all here)

done-least : {d e : List ℕ} (s : List ℕ) → d ⊆ e → s ⊆ e → done d s ⊆ e
done-least [] p q = p
done-least (x ∷ s) p q = done-least s (⊆-cons p (q.all here)) (⊆-trans ⊆-grow q)

-- from nothing: the operations of the list
pub done-same : (s : List ℕ) → SameOperations (done [] s) s
done-same s = record { forth = done-least s ⊆-nil ⊆-refl; back = done-new [] s }

pub done-append : (d s t : List ℕ) → done d (s ++ t) ≡ done (done d s) t
done-append d [] t = refl
done-append d (x ∷ s) t = done-append (x ∷ d) s t
