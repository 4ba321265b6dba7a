-- The rule by which operations run: which one may be next, given those that are done.
-- Follows: report 1084, "Problem statement"; document 01, "Runs".
-- Differs: there the rule is one (an operation after its worker's earlier ones, a Wait after a Post of its event).
-- Here it is any rule, and all that the theory asks of it is that it is monotone.
use Rattle.std.specs.Prelude.{Bool, not, ◌&&◌, List, ℕ, T, eqb}
use Rattle.basics.specs.Membership.{◌⊆◌}

pub record Rule : Type 0 where
  -- how many operations there are: those numbered below it
  pub size : ℕ
  -- may this operation be next when those are done?
  pub may : List ℕ → ℕ → Bool

-- An operation that may be next still may when more is done. Post and Wait are so because nothing resets an event:
-- report 1084 does not consider Clear, and in document 01 "a Wait takes nothing away".
pub record Monotone (R : Rule) : Type 0 where
  pub keeps : {d e : List ℕ} (x : ℕ) → d ⊆ e → T (R.may d x) → T (R.may e x)

-- The same rule without operation a, which never may be next. Its runs are the runs that lack a.
abbrev pub without : Rule → ℕ → Rule
without R a = record { size = R.size; may = λ d x. R.may d x && not (eqb x a) }
