-- `floats::is_finite`: between the infinities.
use mathlib.Core.Path.{◌∙◌}
use lib.Ieee.{nan_bits}
use Rattle.floats.proofs.Patterns.{finite-by, finite-not}
use Rattle.floats.proofs.is_finite.Goals as goal

pub float_from_bits-above : goal.float_from_bits-above
unfolding nan_bits
float_from_bits-above c = tt

pub float_from_bits-below : goal.float_from_bits-below
unfolding nan_bits
float_from_bits-below c = tt

pub returns-then-below-x : goal.returns-then-below-x
returns-then-below-x c = finite-by c.args.x c.if-below-x.true

pub returns-else-below-x : goal.returns-else-below-x
returns-else-below-x c = c.if-below-x.false ∙ finite-not c.args.x c.if-below-x.false
