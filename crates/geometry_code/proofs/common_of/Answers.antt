-- `geometry_code::common_of`: side by side.
use borrow.Author.Rules.{rules, sfits_of}
use mathlib.Core.Path.{◌∙◌}
use Rattle.geometry.proofs.Machine.{read-back₂, rect-eq, Fitting}
use Rattle.geometry.proofs.Rectangles.{max-is, min-is}
use Rattle.geometry.specs.Rectangles.{common, max_z, min_z}
use Rattle.geometry_code.proofs.common_of.Goals as goal

pub returns : goal.returns
unfolding common
returns c =
    let fits-a : Fitting c.args.a = search rules in
    let fits-b : Fitting c.args.b = search rules in
    let a = fits-a in
    let b = fits-b in
    rect-eq (read-back₂ max_z (sfits_of c.max.type_inv) a.left b.left (c.max.ensures.value ∙ max-is _ _))
    (read-back₂ max_z (sfits_of c.max-2.type_inv) a.bottom b.bottom (c.max-2.ensures.value ∙ max-is _ _))
    (read-back₂ min_z (sfits_of c.min.type_inv) a.right b.right (c.min.ensures.value ∙ min-is _ _))
    (read-back₂ min_z (sfits_of c.min-2.type_inv) a.top b.top (c.min-2.ensures.value ∙ min-is _ _))
