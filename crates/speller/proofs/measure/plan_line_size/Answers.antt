-- `plan_line_size` adds the word, the byte that ends the line, and the digits.
use native.Mathlib.Omega.{arith}
use Rattle.decimal.proofs.Numerals.{size-most}
use Rattle.line.proofs.Lengths.{plan-length}
use Rattle.speller.proofs.measure.plan_line_size.Goals as goal

pub overflow_add-result : goal.overflow_add-result
overflow_add-result c = omega (arith, c.size_of.ensures, size-most 19 c.args.k)

pub returns : goal.returns
returns c = omega (arith, c.size_of.ensures, plan-length c.args.k)
