use mathlib.Core.Path.{◌≡◌}
use Prim.Native.Nat.{ℕ, ◌+◌, ◌^◌, ◌≤◌, max}
use native.Mathlib.Omega.{arith}
use Rattle.decimal.proofs.Powers.{next_fits, next-is}
use Rattle.decimal.proofs.Numerals.{size_low, size-last}
use Rattle.speller.proofs.numbers.size_of.Goals as goal

pub returns-then-n-next : goal.returns-then-n-next
returns-then-n-next c = size_low _ c.loop-c.c (omega arith) c.loop-c.invariant.1 (omega (arith, c.loop-c.invariant.0))

pub overflow_mul-next : goal.overflow_mul-next
overflow_mul-next c = next_fits c.loop-c.c c.loop-c.next (omega arith) c.loop-c.invariant.0

pub loop-c-preserved : goal.loop-c-preserved
loop-c-preserved c = (next-is c.loop-c.c c.loop-c.next c.loop-c.invariant.0, omega (arith, c.loop-c.invariant.0))

-- behind the last step
last : (c next n : ℕ) → c ≡ 18 → next ≡ 10 ^ (c + 1) → 10 ^ c ≤ max n 1 → (next ≡ 10 ^ 19) × (10 ^ 18 ≤ max n 1)
last c next n e p q = (rw e at p, rw e at q)

pub returns-then-n-next-2 : goal.returns-then-n-next-2
returns-then-n-next-2 c =
    let e = last c.loop-c.c c.loop-c.next _ (omega (arith, c.loop-c.auto.c-end, c.loop-c-test.false)) c.loop-c.invariant.0 c.loop-c.invariant.1 in
    size_low _ 18 (omega arith) e.1 (omega (arith, e.0, c.if-n-next-2.true))

pub returns-else-n-next-2 : goal.returns-else-n-next-2
returns-else-n-next-2 c =
    let e = last c.loop-c.c c.loop-c.next c.args.n (omega (arith, c.loop-c.auto.c-end, c.loop-c-test.false)) c.loop-c.invariant.0 c.loop-c.invariant.1 in
    size-last _ (omega (arith, e.0, c.if-n-next-2.false))
