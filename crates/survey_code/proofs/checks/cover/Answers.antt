-- `survey_code::checks::cover`.
use mir.Syntax.{w32}
use mathlib.Core.Path.{◌∙◌}
use mir.Facts.{to_z-of_z}
use Rattle.survey.specs.Records.{cover_of}
use borrow.Author.Rules.{sfits_of}
use Rattle.geometry.proofs.Machine.{rect-eq}
use Rattle.survey_code.proofs.checks.cover.Goals as goal

pub returns : goal.returns
unfolding cover_of
returns c =
    rect-eq (to_z-of_z {w = mir.Syntax.w32} (sfits_of c.floor.type_inv) ∙ c.floor.ensures) (to_z-of_z {w = mir.Syntax.w32} (sfits_of c.floor-2.type_inv) ∙ c.floor-2.ensures)
    (to_z-of_z {w = mir.Syntax.w32} (sfits_of c.ceil.type_inv) ∙ c.ceil.ensures) (to_z-of_z {w = mir.Syntax.w32} (sfits_of c.ceil-2.type_inv) ∙ c.ceil-2.ensures)
