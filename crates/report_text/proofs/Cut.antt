-- Input that is cut: one byte more than an accepted file can have is enough for its report.
use mathlib.Core.List.{List}
use mathlib.Core.Path.{◌≡◌}
use native.Mathlib.Omega.{arith}
use Prim.Native.Nat.{ℕ, ◌≤◌}
use lib.ListN.{length, take}
use Rattle.trace.proofs.LongFiles.{file-cut}
use Rattle.accept.specs.Acceptance.{acceptance}
use Rattle.order_table.specs.Table.{table_reading}
use Rattle.races.specs.Races.{races_reading}
use Rattle.report_text.specs.ReportText.{report_text}

pub report-cut : (bytes : List ℕ) → 10251 ≤ length bytes → report_text (take 10251 bytes) ≡ report_text bytes
unfolding report_text races_reading table_reading acceptance
report-cut bytes l = rw (file-cut (omega arith) bytes l)
