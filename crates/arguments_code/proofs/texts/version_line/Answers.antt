-- `version_line` has these bytes, which both sides compute to.
use mathlib.Core.Path.{refl}
use Rattle.commands.specs.Commands.{version_line}
use Rattle.arguments_code.proofs.texts.version_line.Goals as goal

pub returns : goal.returns
unfolding version_line
returns c = refl
