-- `take_in` meets its contract. The invariant: k is the high end, and the state is right. Assumes nothing.
use Prim.Native.Nat.{◌-◌}
use Rattle.trace.specs.Reading.{trace_of}
use Rattle.unordered.proofs.Loops.{TakingIn}
use Rattle.unordered.proofs.Unordered.take_in.Given as goal

abbrev pub invariant-loop-due : goal.invariant-loop-due
invariant-loop-due l =
    TakingIn (trace_of l.filled.trace.bytes.now) l.filled.table.now l.n l.a l.w l.q l.self l.k l.due

abbrev pub decreases-loop-due : goal.decreases-loop-due
decreases-loop-due l = 1024 - l.k
