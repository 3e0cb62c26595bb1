-- `names_number` asks the argument's bytes.
use mathlib.Core.Path.{ap, ◌∙◌}
use Rattle.commands.specs.Arguments.{is_number}
use Rattle.arguments_code.proofs.arguments.names_number.Goals as goal

pub returns : goal.returns
returns c = c.is_number.ensures ∙ ap is_number c.part_of.ensures
