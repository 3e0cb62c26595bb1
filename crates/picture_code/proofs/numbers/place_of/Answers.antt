-- `place_of`: each number is read back. A line of the legend is not far down.
use mathlib.Core.Path.{refl}
use native.Mathlib.Omega.{arith}
use Rattle.picture.proofs.Signs.{number_is, ◌then◌}
use Rattle.picture.proofs.Frames.{line-few}
use borrow.Author.Rules.{sfits_of}
use Rattle.picture_code.proofs.numbers.place_of.Goals as goal

pub overflow_mul-u-3 : goal.overflow_mul-u-3
overflow_mul-u-3 c = omega (arith, line-few c.args.frame.unit c.args.layer (omega (arith, c.requires.0.unit)) c.requires.1)

pub overflow_add-u : goal.overflow_add-u
overflow_add-u c = omega (arith, c.requires.0.unit, line-few c.args.frame.unit c.args.layer (omega (arith, c.requires.0.unit)) c.requires.1)

pub whole-requires-2 : goal.whole-requires-2
whole-requires-2 c = omega (arith, c.requires.0.unit, line-few c.args.frame.unit c.args.layer (omega (arith, c.requires.0.unit)) c.requires.1)

pub returns : goal.returns
returns c = (number_is (sfits_of c.whole.type_inv) c.whole.ensures) then ((number_is (sfits_of c.whole-2.type_inv) c.whole-2.ensures) then refl)
