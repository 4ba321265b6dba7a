-- Maximal runs exist, every run lies at the beginning of one, and, where there is a complete run, every run can be
-- carried on to a complete one.
use mathlib.Core.List.{List, [], ◌++◌}
use Prim.Native.Nat.{ℕ}
use Rattle.basics.specs.Membership.{up_to}
use Rattle.runs.specs.Rule.{Rule, Monotone}
use Rattle.runs.specs.Run.{Run, Complete}
use Rattle.runs.specs.Maximal.{Maximal, MaximalWithout}
use Rattle.runs.specs.Steps.{done}
use Rattle.runs.specs.Greedy.{Preference, greedy_from, greedy}
use Rattle.runs.proofs.Lengths.{up_to-in}
use Rattle.runs.proofs.MaximalRuns.{maximal-complete}
use Rattle.runs.proofs.GreedyRuns.{greedy-from-maximal, greedy-maximal, greedy-without-maximal}

-- by number: an order of preference
pub by_number : (n : ℕ) → Preference n (up_to n)
by_number n = record { lists = λ l. up_to-in n l }

module _ {R : Rule} (mono : Monotone R) where
  pub maximal-exists : (m : List ℕ) × Maximal R m
  maximal-exists = (greedy R (up_to R.size), greedy-maximal mono (by_number R.size))

  pub maximal-without-exists : (a : ℕ) → (m : List ℕ) × MaximalWithout R a m
  maximal-without-exists a = (_, greedy-without-maximal mono (by_number R.size) a)

  -- every run lies at the beginning of a maximal one
  pub extends-maximal : {r : List ℕ} → Run R r → (s : List ℕ) × Maximal R (r ++ s)
  extends-maximal {r} p =
      (greedy_from R (up_to R.size) R.size (done [] r), greedy-from-maximal mono (by_number R.size) p)

  -- Where there is a complete run, every run r can be carried on to a complete one: r ++ s.
  pub carry-on : {r c : List ℕ} → Run R r → Complete R c → (s : List ℕ) × Complete R (r ++ s)
  carry-on p c =
      let t = extends-maximal p in
      (t.0, maximal-complete mono t.1 c)
