-- The runs of document 01's rule are the runs of the trace. In order: what the rule asks of an operation; runs;
-- complete runs; the test of a run.
use mathlib.Core.Bool.{Bool, true, false, cond}
use mathlib.Core.List.Memᴰ
use mathlib.Core.List.{List, [], ◌∷◌, ◌++◌, append_assoc}
use mathlib.Core.Logic.Iff
use mathlib.Core.Logic.{◌↔◌}
use mathlib.Core.Path.{◌≡◌}
use Prim.Native.Nat.{ℕ}
use lib.Dec.{T, eqb, eqb→eq, eqb_refl}
use Rattle.basics.specs.Membership.{◌∈◌, all_of}
use Rattle.basics.proofs.Booleans.{and_left, and_right, and_intro}
use Rattle.basics.proofs.Members.{any-test, in_split, here}
use Rattle.runs.specs.Run.{Run, Complete, StandsBefore}
use Rattle.runs.specs.Steps.{is_run}
use Rattle.runs.specs.Workers.{turn}
use Rattle.runs.proofs.Before.{before-front, front-before}
use Rattle.runs.proofs.ProgramOrder.{turn-test}
use Rattle.runs.proofs.RunSteps.{run-test, run-first}
use Rattle.trace.specs.Trace.{Trace, operation, worker_of, is_post, is_wait}
use Rattle.model.specs.Runs.{Earlier, Waits, PostFor, PostBefore, RunOf, CompleteRunOf, CarriedOn}
use Rattle.model.specs.Moves.{MayRun}
use Rattle.model.specs.Rule.{posts, posted, unblocked, rule}
use Rattle.model.proofs.RuleLaws.{rule-monotone}

module _ (t : Trace) where
  -- ---- what the rule asks of x when d is done

  posts-means : (x y : ℕ) → T (posts t (operation t x).number y) ↔ PostFor t x y
  posts-means x y = (forth, back)
    where
      forth : T (posts t (operation t x).number y) → PostFor t x y
      forth h = record {
        post = and_left (is_post (operation t y).kind) (eqb (operation t y).number (operation t x).number) h;
        event = eqb→eq _ _ (and_right (is_post (operation t y).kind) _ h);
      }

      back : PostFor t x y → T (posts t (operation t x).number y)
      back p =
          and_intro (is_post (operation t y).kind) _ p.post (rw p.event (eqb_refl (operation t x).number))

  -- a Wait has a Post of its event done
  pub unblocked-means : (d : List ℕ) (x : ℕ) → T (unblocked t d x) ↔ MayRun t d x
  unblocked-means d x = (forth, back)
    where
      asks : T (unblocked t d x) ↔ (Waits t x → T (posted t (operation t x).number d))
      asks = go (is_wait (operation t x).kind)
        where
          n : ℕ
          n = (operation t x).number

          go : (b : Bool) → T (all_of (λ e. posted t e d) (cond b (n ∷ []) [])) ↔ (T b → T (posted t n d))
          go true = (λ h w. and_left (posted t n d) true h, λ f. and_intro (posted t n d) true (f tt) tt)
          go false = (λ h w. absurd w, λ f. tt)

      forth : T (unblocked t d x) → MayRun t d x
      forth h = record { posted = λ w. found ((any-test _ d).0 (asks.0 h w)) }
        where
          found : (y : ℕ) × (y ∈ d) × T (posts t (operation t x).number y) → (y : ℕ) × (y ∈ d) × PostFor t x y
          found p = (p.0, p.1, (posts-means x p.0).0 p.2)

      back : MayRun t d x → T (unblocked t d x)
      back m = asks.1 (λ w. found (m.posted w))
        where
          found : (y : ℕ) × (y ∈ d) × PostFor t x y → T (posted t (operation t x).number d)
          found p = (any-test _ d).1 (p.0, p.1, (posts-means x p.0).1 p.2)

  -- the worker's earlier operations are done
  turn-means : (d : List ℕ) (x : ℕ) → T (turn (worker_of t) d x) ↔ ((y : ℕ) → Earlier t y x → y ∈ d)
  turn-means d x = (
    λ h y e. (turn-test (worker_of t) d x).0 h y e.same_worker e.lower,
    λ f. (turn-test (worker_of t) d x).1 (λ y e l. f y (record { same_worker = e; lower = l })),
  )

  abbrev in-turn : List ℕ → ℕ → Bool
  in-turn d x = turn (worker_of t) d x

  pub may-means : (d : List ℕ) (x : ℕ) → T ((rule t).may d x) ↔ (((y : ℕ) → Earlier t y x → y ∈ d) × MayRun t d x)
  may-means d x = (
    λ h. ((turn-means d x).0 (and_left (in-turn d x) _ h), (unblocked-means d x).0 (and_right (in-turn d x) _ h)),
    λ p. and_intro (in-turn d x) _ ((turn-means d x).1 p.0) ((unblocked-means d x).1 p.1),
  )

  -- ---- runs

  run_of : {r : List ℕ} → Run (rule t) r → RunOf t r
  run_of {r} p =
      record {
        operations = λ m. p.below m;
        different = p.different;
        earlier_before = λ m e. earlier m e;
        post_before = λ m w. waited m w;
      }
    where
      earlier : {x y : ℕ} → x ∈ r → Earlier t y x → StandsBefore y x r
      earlier {x} {y} m e =
          let s = in_split m in
          let h = (may-means s.0 x).0 (p.allowed s.0 s.1 x s.2) in
          front-before s.0 s.1 s.2 (h.0 y e)

      waited : {x : ℕ} → x ∈ r → Waits t x → PostBefore t x r
      waited {x} m w =
          let s = in_split m in
          let y = ((may-means s.0 x).0 (p.allowed s.0 s.1 x s.2)).1.posted w in
          record { which = y.0; post_for = y.2; before = front-before s.0 s.1 s.2 y.1 }

  of-run : {r : List ℕ} → RunOf t r → Run (rule t) r
  of-run {r} p = record { below = λ m. p.operations m; different = p.different; allowed = allowed }
    where
      allowed : (u v : List ℕ) (x : ℕ) → r ≡ u ++ x ∷ v → T ((rule t).may u x)
      allowed u v x e =
          (may-means u x).1 (
            λ y l. front (p.earlier_before inside l),
            record { posted = λ w. waited (p.post_before inside w) },
          )
        where
          inside : x ∈ r
          inside = rw e (Memᴰ.append_right u here)

          front : {y : ℕ} → StandsBefore y x r → y ∈ u
          front b = before-front u v e p.different b

          waited : PostBefore t x r → (y : ℕ) × (y ∈ u) × PostFor t x y
          waited b = (b.which, front b.before, b.post_for)

  pub run-means : {r : List ℕ} → Run (rule t) r ↔ RunOf t r
  run-means = (run_of, of-run)

  -- a run with operations at its end is carried on, one after the other
  pub longer-carries-on : {r s : List ℕ} → RunOf t (r ++ s) → CarriedOn t r s
  longer-carries-on {r} {s} p = record { longer = longer }
    where
      longer : (u v : List ℕ) → s ≡ u ++ v → RunOf t (r ++ u)
      longer u v e =
          let whole : Run (rule t) ((r ++ u) ++ v) = rw (append_assoc, ← e) (of-run p) in
          run_of (run-first (rule-monotone t) (r ++ u) v whole)

  -- ---- complete runs

  pub complete-means : {r : List ℕ} → Complete (rule t) r ↔ CompleteRunOf t r
  complete-means = (
    λ c. record { is_a_run = run_of c.is_a_run; holds = c.holds },
    λ c. record { is_a_run = of-run c.is_a_run; holds = c.holds },
  )

  -- ---- the test of a run

  pub run-of-test : (r : List ℕ) → T (is_run (rule t) r) ↔ RunOf t r
  run-of-test r = Iff.trans (run-test (rule-monotone t) r) run-means
