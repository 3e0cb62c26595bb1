-- `upward`: the ends of the height are read back.
use mathlib.Core.Path.{ap₂, ◌∙◌}
use lib.IntN.{ℤ}
use mir.Facts.{to_z-of_z}
use Rattle.geometry.proofs.Machine.{Fitting}
use Rattle.picture.specs.Hatchings.{fourth}
use Rattle.picture.proofs.Signs.{number_is}
use borrow.Author.Rules.{rules, sfits_of}
use Rattle.picture_code.proofs.hatchings.upward.Goals as goal

pub returns : goal.returns
returns c =
    let fits : Fitting c.args.r = search rules in
    let f = fits in
    number_is (sfits_of c.fourth_of.type_inv)
    (c.fourth_of.ensures ∙ ap₂ (λ (x y : ℤ). fourth c.args.e x y c.args.q) (to_z-of_z f.bottom) (to_z-of_z f.top))
