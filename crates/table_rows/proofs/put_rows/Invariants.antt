-- `put_rows` meets its contract. The invariant: the rows up to m are written. Assumes nothing.
use Rattle.table_rows.specs.Filling.{RowsAlong}
use Rattle.table_rows.proofs.put_rows.Given as goal

abbrev pub invariant-loop-m : goal.invariant-loop-m
invariant-loop-m l = RowsAlong l.index.order l.index.starts l.p l.q l.from l.m l.done l.initial.table l.table
