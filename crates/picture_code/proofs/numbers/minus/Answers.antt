-- `minus`: what fits 32 bits fits 64, with either sign.
use lib.IntN.{pos, ◌-ℤ◌}
use mir.Syntax.{w64}
use mir.Val.{SFits}
use mir.Facts.{to_z-of_z, sfits_widen}
use Rattle.picture.proofs.Signs.{neg_is, neg-wide}
use Rattle.picture_code.proofs.numbers.minus.Goals as goal

pub overflow_cast-result : goal.overflow_cast-result
overflow_cast-result c =
    let longer : SFits w64 c.args.z = sfits_widen tt c.ranges.z in
    let f = c.ranges.z in simp to_z-of_z longer

pub overflow_sub-result : goal.overflow_sub-result
overflow_sub-result c =
    let longer : SFits w64 c.args.z = sfits_widen tt c.ranges.z in
    let turned : SFits w64 (pos 0 -ℤ c.args.z) = neg-wide c.args.z c.ranges.z in
    let f = c.ranges.z in let g = longer in simp to_z-of_z turned

pub returns : goal.returns
returns c =
    let longer : SFits w64 c.args.z = sfits_widen tt c.ranges.z in
    let turned : SFits w64 (pos 0 -ℤ c.args.z) = neg-wide c.args.z c.ranges.z in
    let f = c.ranges.z in let g = longer in let h = turned in simp to_z-of_z (neg_is c.args.z)
