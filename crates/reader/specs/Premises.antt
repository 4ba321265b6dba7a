-- What the reader knows of a file whose header was not refused.
-- Follows: document 01, "The questions", in what passing the first four means.
-- Differs: nowhere. Means: it follows from what was answered (proofs/ReaderSteps), so that nobody has to believe it.
use Rattle.std.specs.Prelude.{List, ◌≡◌, ℕ}
use Rattle.trace.specs.Form.{Form}
use Rattle.trace.specs.Questions.{operation_in, header_question}

-- questions 1 to 4 do not refuse the file, and its header has p and n
pub record HoldsHeader (f : Form) (bytes : List ℕ) (p n : ℕ) : Type 0 where
  pub passes : header_question f bytes ≡ 0
  pub workers : (operation_in bytes).worker ≡ p
  pub count : (operation_in bytes).number ≡ n
