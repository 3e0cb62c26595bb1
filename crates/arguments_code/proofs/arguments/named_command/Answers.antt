-- `named_command` asks the argument's bytes.
use mathlib.Core.Path.{ap, ◌∙◌}
use Rattle.commands.specs.Arguments.{command_number}
use Rattle.arguments_code.proofs.arguments.named_command.Goals as goal

pub returns : goal.returns
returns c = c.command_of.ensures ∙ ap command_number c.part_of.ensures
