-- `let_out` meets its contract. The invariant: k is the low end, and the state is right. Assumes nothing.
use Prim.Native.Nat.{◌-◌}
use Rattle.trace.specs.Reading.{trace_of}
use Rattle.unordered.proofs.Loops.{LettingOut}
use Rattle.unordered.proofs.Unordered.let_out.Given as goal

abbrev pub invariant-loop-gone : goal.invariant-loop-gone
invariant-loop-gone l =
    LettingOut (trace_of l.filled.trace.bytes.now) l.filled.table.now l.a l.w l.q l.self l.high l.k l.gone

abbrev pub decreases-loop-gone : goal.decreases-loop-gone
decreases-loop-gone l = 1024 - l.k
