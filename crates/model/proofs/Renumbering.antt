-- A trace whose operations are renumbered has the runs that it had, renumbered.
use mathlib.Core.List.Memᴰ
use mathlib.Core.List.{List, map}
use mathlib.Core.Path.{◌≡◌, sym, ap, ◌∙◌}
use native.Mathlib.Omega.{arith}
use Prim.Native.Nat.{ℕ, ◌<◌}
use Rattle.basics.specs.Membership.{◌∈◌}
use Rattle.basics.proofs.Members.{map_each, different-map}
use Rattle.runs.specs.Run.{StandsBefore}
use Rattle.runs.proofs.Before.{before-first, before-map}
use Rattle.trace.specs.Trace.{Trace, size, operation}
use Rattle.model.specs.Runs.{Earlier, Waits, PostBefore, RunOf, CompleteRunOf}

-- operation x of t is operation `to x` of u, and operation y of u is operation `from y` of t; a worker's operations
-- keep their order
pub record Renumbered (t u : Trace) (to from : ℕ → ℕ) : Type 0 where
  pub to_below : {x : ℕ} → x < size t → to x < size u
  pub from-below : {y : ℕ} → y < size u → from y < size t
  pub from-to : {x : ℕ} → x < size t → from (to x) ≡ x
  pub to-from : {y : ℕ} → y < size u → to (from y) ≡ y
  pub same : {x : ℕ} → x < size t → operation u (to x) ≡ operation t x
  pub earlier : {y x : ℕ} → x < size u → Earlier u y x → Earlier t (from y) (from x)

module _ {t u : Trace} {to from : ℕ → ℕ} (n : Renumbered t u to from) {r : List ℕ} where
  pub renumbered-run : RunOf t r → RunOf u (map to r)
  renumbered-run p =
      record {
        operations = λ m. map_each to (λ y. y < size u) (λ x i. below i) m;
        different = different-map to p.different (λ x y i j e. injective i j e);
        earlier_before = λ {x} {y} m e.
            map_each to (λ z. Earlier u y z → StandsBefore y z (map to r)) (λ x i. earlier i) m e;
        post_before = λ m w. map_each to (λ z. Waits u z → PostBefore u z (map to r)) (λ x i. waited i) m w;
      }
    where
      below : {x : ℕ} → x ∈ r → to x < size u
      below i = n.to_below (p.operations i)

      injective : {x y : ℕ} → x ∈ r → y ∈ r → to x ≡ to y → x ≡ y
      injective i j e = sym (n.from-to (p.operations i)) ∙ ap from e ∙ n.from-to (p.operations j)

      earlier : {x y : ℕ} → x ∈ r → Earlier u y (to x) → StandsBefore y (to x) (map to r)
      earlier {y = y} i e =
          let stands = p.earlier_before i (rw (n.from-to (p.operations i)) at (n.earlier (below i) e)) in
          rw (n.to-from {y = y} (omega (arith, below i, e.lower))) at (before-map to stands)

      waited : {x : ℕ} → x ∈ r → Waits u (to x) → PostBefore u (to x) (map to r)
      waited i w =
          let own = n.same (p.operations i) in
          let b = p.post_before i (rw own at w) in
          let other = n.same (p.operations (before-first b.before)) in
          record {
            which = to b.which;
            post_for = record { post = rw other b.post_for.post; event = rw (other, own) b.post_for.event };
            before = before-map to b.before;
          }

  pub renumbered-complete : CompleteRunOf t r → CompleteRunOf u (map to r)
  renumbered-complete c =
      record {
        is_a_run = renumbered-run c.is_a_run;
        holds = λ y l. rw (n.to-from l) at (Memᴰ.map to (c.holds (from y) (n.from-below l)));
      }
