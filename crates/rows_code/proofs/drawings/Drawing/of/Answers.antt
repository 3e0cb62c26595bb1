-- `Drawing::of`: a sound plan can be read.
use native.Mathlib.Omega.{arith}
use Rattle.plan.proofs.Growing.{framed}
use Rattle.rows_code.proofs.Reading.{readable}
use Rattle.rows_code.proofs.drawings.Drawing.of.Goals as goal

pub shared_ref_as_front-result : goal.shared_ref_as_front-result
shared_ref_as_front-result c = omega (arith, c.requires.typed.sizes, (framed _ _ c.requires).0)

pub invariant_of-result : goal.invariant_of-result
invariant_of-result c = record { readable = readable _ _ c.requires }
