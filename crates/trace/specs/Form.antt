-- The form of a trace file: its mark and its record size.
-- Follows: document 01, "Trace file" (`base`: mark 50 57, records of 10 bytes).
-- Differs: everything that is said about reading and writing takes the form as a parameter, and a form may have a field
-- for the rank behind the ten bytes (document 02, request 8). `base` has none: its width is 0.
use Rattle.std.specs.Prelude.{ℕ, ◌+◌, ◌*◌}

-- the two bytes of the mark, and how many bytes hold the rank
pub record Form : Type 0 where
  pub first : ℕ
  pub second : ℕ
  pub rank_width : ℕ

-- the form of document 01
abbrev pub base : Form
base = record { first = 0x50; second = 0x57; rank_width = 0 }

-- how many bytes a record has
abbrev pub record_size : Form → ℕ
record_size f = 10 + f.rank_width

-- where the record of operation k starts: the header is the record before the first. With n for k, the file's size.
abbrev pub start : Form → ℕ → ℕ
start f k = record_size f + record_size f * k
