-- `product` is safe, ends, and is at most 1,024 × 16. Assumes nothing.
use Prim.Native.Nat.{ℕ, ◌*◌, ◌%◌, ◌≤◌}
use native.Mathlib.Nat.{mul-le-mul}
use native.Mathlib.Omega.{arith}
use borrow.Author.Rules.{rules}
use Rattle.test_memory.proofs.product.Goals as goal

bounded : (a b : ℕ) → (a % 1025) * (b % 17) ≤ 16384
bounded a b = mul-le-mul {n₂ = 1024} {m₂ = 16} (omega arith) (omega arith)

pub overflow_mul-result : goal.overflow_mul-result
overflow_mul-result c = let few = bounded c.args.a c.args.b in search rules

pub returns : goal.returns
returns c = let few = bounded c.args.a c.args.b in search rules
