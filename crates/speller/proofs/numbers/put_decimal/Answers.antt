-- `put_decimal` stores a number's digits, the last one first.
use native.Mathlib.Omega.{arith}
use Rattle.decimal.proofs.Numerals.{length-decimal}
use Rattle.speller.proofs.Decimals.{one_more, all-stored}
use Rattle.speller.proofs.numbers.put_decimal.Goals as goal

pub overflow_add-end : goal.overflow_add-end
overflow_add-end c = omega (arith, c.size_of.ensures, length-decimal c.args.n)

pub bounds-buf-i : goal.bounds-buf-i
bounds-buf-i c = omega (arith, c.loop-i.auto, c.loop-i.invariant.1.inside, length-decimal c.args.n, c.size_of.ensures)

pub loop-i-preserved : goal.loop-i-preserved
loop-i-preserved c = (omega arith, one_more _ _ _ c.loop-i.buf c.loop-i.i c.loop-i.m (omega arith) c.loop-i.invariant.1)

pub returns : goal.returns
returns c = rw c.size_of.ensures (all-stored c.args.buf.now c.args.at c.args.n c.loop-i.buf c.loop-i.i c.loop-i.m (omega arith) (omega arith) (rw c.size_of.ensures at c.loop-i.invariant.1))
