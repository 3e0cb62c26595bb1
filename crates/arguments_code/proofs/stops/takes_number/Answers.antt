-- `takes_number` asks the argument's bytes.
use mathlib.Core.Path.{ap, ◌∙◌}
use Rattle.commands.specs.Arguments.{is_taken}
use Rattle.arguments_code.proofs.stops.takes_number.Goals as goal

pub returns : goal.returns
returns c = c.is_taken.ensures ∙ ap (is_taken c.args.dash) c.part_of.ensures
