-- `which_prefix` meets its contract.
-- Assumes nothing.
use native.Mathlib.Omega.{arith}
use Rattle.beginning.proofs.Beginnings.{prefix-first, prefix-second, prefix-neither}
use Rattle.beginning.proofs.which_prefix.Goals as goal

pub returns-in-Some : goal.returns-in-Some
returns-in-Some c = prefix-first _ _ _ _ c.in-Some.ensures.length c.in-Some.ensures.some

pub returns-in-Some-beginning_length : goal.returns-in-Some-beginning_length
returns-in-Some-beginning_length c =
    let second = c.in-Some-beginning_length.ensures in
    prefix-second _ _ _ _ c.in-None.ensures.length (omega arith) second.length second.some

pub returns-in-None-beginning_length : goal.returns-in-None-beginning_length
returns-in-None-beginning_length c =
    prefix-neither _ _ _ _ c.in-None.ensures.length (omega arith) c.in-None-beginning_length.ensures.length (omega arith)
