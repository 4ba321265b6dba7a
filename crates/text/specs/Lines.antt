-- Lines of numbers, each number behind its label.
-- Follows: document 01, "Report program", whose lines have this form.
-- Differs: a line ends with a newline, which document 01 leaves open.
use Rattle.std.specs.Prelude.{List, ◌++◌, ◌≡◌, refl, ℕ}
use Rattle.text.specs.Ascii.{ascii}
use Rattle.text.specs.Decimal.{decimal_within, decimal}

-- a number behind its label
unfoldable pub labelled : List ℕ → ℕ → List ℕ
labelled label x = label ++ decimal x

-- a line of one number, and a line of two
unfoldable pub count_line : List ℕ → ℕ → List ℕ
count_line label x = labelled label x ++ ascii "\n"

unfoldable pub pair_line : List ℕ → ℕ → List ℕ → ℕ → List ℕ
pair_line first x second y = labelled first x ++ (labelled second y ++ ascii "\n")

pub worked : (count_line (ascii "races ") 1 ≡ ascii "races 1\n")
    × (pair_line (ascii "race ") 3 (ascii " ") 15 ≡ ascii "race 3 15\n")
unfolding decimal_within decimal labelled count_line pair_line
worked = (refl, refl)
