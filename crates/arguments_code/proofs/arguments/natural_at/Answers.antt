-- `natural_at` takes the number of the argument.
use mathlib.Core.Path.{ap, ◌∙◌}
use mir.Syntax.{w32}
use mir.Val.{SFits}
use mir.Facts.{to_z-of_z}
use Rattle.commands.specs.Arguments.{natural_of}
use borrow.Author.Rules.{sfits_of}
use Rattle.arguments_code.proofs.arguments.natural_at.Goals as goal

pub returns : goal.returns
returns c =
    let f : SFits w32 c.number_at.result = sfits_of c.number_at.type_inv in
    let e = simp to_z-of_z at c.natural_of.ensures in
    e ∙ ap natural_of c.number_at.ensures
