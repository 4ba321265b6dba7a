-- How long the lines are, by the widths of their numbers.
use native.Mathlib.Omega.{arith}
use Prim.Native.Nat.{ℕ, ◌<◌, ◌≤◌}
use lib.ListN.{length}
use Rattle.race_model.specs.RaceList.{pair}
use Rattle.text.specs.Ascii.{ascii}
use Rattle.text.proofs.LineLengths.{pair-line-length, count-line-length}
use Rattle.report_text.specs.ReportText.{counts_line, race_line, races_line, refusal}

-- two numbers of 16 bits
pub race-line-length : (a b : ℕ) → a < 65536 → b < 65536 → length (race_line (pair a b)) ≤ 17
race-line-length a b l m = pair-line-length (ascii "race ") 4 a (omega (arith, l)) (ascii " ") 4 b (omega (arith, m))

-- the counts: one of 32 bits, and one of 8
pub counts-line-length : (n p : ℕ) → n < 4294967296 → p < 256 → length (counts_line n p) ≤ 27
counts-line-length n p l m =
    pair-line-length (ascii "ops ") 9 n (omega (arith, l)) (ascii " workers ") 2 p (omega (arith, m))

-- a refusal: a number of 8 bits, and a place of 32
pub refusal-line-length : (q k : ℕ) → q < 256 → k < 4294967296 → length (refusal q k) ≤ 23
unfolding refusal
refusal-line-length q k l m =
    pair-line-length (ascii "refused ") 2 q (omega (arith, l)) (ascii " ") 9 k (omega (arith, m))

-- the number of races, of 32 bits
pub races-line-length : (k : ℕ) → k < 4294967296 → length (races_line k) ≤ 17
races-line-length k l = count-line-length (ascii "races ") 9 k (omega (arith, l))
