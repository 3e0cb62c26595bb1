-- `wide`: what fits 32 bits fits 64.
use mathlib.Core.Path.{refl}
use mir.Syntax.{w64}
use mir.Val.{SFits}
use mir.Facts.{to_z-of_z, sfits_widen}
use Rattle.picture_code.proofs.numbers.wide.Goals as goal

pub overflow_cast-result : goal.overflow_cast-result
overflow_cast-result c =
    let longer : SFits w64 c.args.z = sfits_widen tt c.ranges.z in
    let f = c.ranges.z in simp to_z-of_z longer

pub returns : goal.returns
returns c =
    let longer : SFits w64 c.args.z = sfits_widen tt c.ranges.z in
    let f = c.ranges.z in let g = longer in simp to_z-of_z refl
