-- `read_next` meets its contract. The invariant: the operations from k on are read. Assumes nothing.
use mathlib.Core.List.{List}
use mathlib.Core.Path.{refl}
use native.Mathlib.Omega.{arith}
use Prim.Native.Nat.{ℕ}
use lib.ListN.{replicate, get_or-replicate}
use borrow.Author.Rules.{rules}
use Rattle.trace.specs.Reading.{trace_of}
use Rattle.unordered.proofs.NextOperations.{read-start, read_more, read-end}
use Rattle.unordered.proofs.read_next.Goals as goal

pub loop-k-init : goal.loop-k-init
loop-k-init c =
    let h = c.args.trace.now.holds in
    let firsts : List ℕ = replicate 16 1024 in
    rw h.count at
    (read-start {t = trace_of c.args.trace.now.bytes.now} {next = c.args.next.now} {firsts = firsts}
    (omega (arith, h.count, h.few)) refl (λ q l. get_or-replicate 16 q 1024 0 l))

pub loop-k-preserved : goal.loop-k-preserved
loop-k-preserved c =
    let h = c.args.trace.now.holds in
    read_more c.loop-k.invariant (omega (arith, h.count, h.few)) (search rules)
    (omega (arith, c.loop-k-test.true)) c.worker-q.ensures.0 c.worker-q.ensures.1

pub returns : goal.returns
returns c = read-end c.loop-k.invariant (omega (arith, c.loop-k-test.false))
