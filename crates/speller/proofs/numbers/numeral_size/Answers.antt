-- `numeral_size` counts the digits of the magnitude, and the minus.
use mathlib.Core.Path.{ap}
use native.Mathlib.Omega.{arith}
use lib.ListN.{length}
use Rattle.decimal.proofs.Numerals.{length-decimal, size-most}
use Rattle.decimal.proofs.Signs.{minus_first, digits_alone}
use Rattle.speller.proofs.numbers.numeral_size.Goals as goal

pub overflow_add-result : goal.overflow_add-result
overflow_add-result c = omega (arith, c.size_of-n.ensures, size-most 19 c.unsigned_abs.result)

pub returns-then-z-lt0 : goal.returns-then-z-lt0
returns-then-z-lt0 c =
    omega (arith, c.size_of-n.ensures, length-decimal c.unsigned_abs.result, ap length (minus_first c.args.z _ c.ranges.z c.if-z-lt0.true c.unsigned_abs.ensures.value))

pub returns : goal.returns
returns c =
    omega (arith, c.size_of-n.ensures, length-decimal c.unsigned_abs.result, ap length (digits_alone c.args.z _ c.ranges.z c.if-z-lt0.false c.unsigned_abs.ensures.value))
