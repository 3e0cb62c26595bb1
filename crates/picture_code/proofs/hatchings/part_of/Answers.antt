-- `part_of`: the product fits.
use mathlib.Core.Path.{refl}
use native.Mathlib.Omega.{arith}
use Rattle.picture.proofs.Hatchings.{part-few}
use Rattle.picture_code.proofs.hatchings.part_of.Goals as goal

pub overflow_mul-result : goal.overflow_mul-result
overflow_mul-result c = omega (arith, part-few c.args.n c.args.q c.requires (omega arith))

pub returns : goal.returns
returns c = (refl, omega (arith, part-few c.args.n c.args.q c.requires (omega arith)))
