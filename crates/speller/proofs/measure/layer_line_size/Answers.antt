-- `layer_line_size` adds the word, the bytes that end the two fields, and the digits of each.
use native.Mathlib.Omega.{arith}
use Rattle.decimal.proofs.Numerals.{size-most}
use Rattle.line.proofs.Lengths.{layer-length}
use Rattle.speller.proofs.measure.layer_line_size.Goals as goal

pub overflow_add-result : goal.overflow_add-result
overflow_add-result c = omega (arith, c.size_of.ensures, size-most 19 c.args.n)

pub overflow_add-result-2 : goal.overflow_add-result-2
overflow_add-result-2 c = omega (arith, c.size_of.ensures, c.size_of-2.ensures, size-most 19 c.args.n, size-most 19 c.args.margin)

pub returns : goal.returns
returns c = omega (arith, c.size_of.ensures, c.size_of-2.ensures, layer-length c.args.n c.args.margin)
