-- `fourth_of`: a part of the span and what is beyond it, from its start on.
use mathlib.Core.Path.{◌∙◌}
use mir.Facts.{to_z-of_z}
use Rattle.geometry.proofs.Machine.{read-span}
use Rattle.picture.proofs.Signs.{number_is}
use Rattle.picture.proofs.Hatchings.{fourth-is}
use borrow.Author.Rules.{sfits_of}
use Rattle.picture_code.proofs.hatchings.fourth_of.Goals as goal

pub returns : goal.returns
returns c =
    number_is (sfits_of c.moved_to.type_inv)
    (fourth-is c.args.e c.args.a c.args.b c.args.q _ _ (c.span.ensures.0 ∙ read-span c.ranges.a c.ranges.b)
    c.part_of.ensures.0 (to_z-of_z c.ranges.a) c.moved_to.ensures)
