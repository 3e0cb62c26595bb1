-- `sample_of`: its sides fit 32 bits.
use mathlib.Core.Path.{refl}
use native.Mathlib.Omega.{arith}
use mir.Syntax.{w32}
use mir.Facts.{to_z_pos}
use Rattle.geometry.proofs.Machine.{rect-eq}
use Rattle.picture_code.proofs.numbers.sample_of.Goals as goal

pub returns : goal.returns
returns c = rect-eq refl refl (to_z_pos w32 (omega (arith, c.requires))) (to_z_pos w32 (omega (arith, c.requires)))
