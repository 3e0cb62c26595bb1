-- `usage_lines` has these bytes, which both sides compute to.
use mathlib.Core.Path.{refl}
use Rattle.commands.specs.Commands.{usage_lines}
use Rattle.arguments_code.proofs.texts.usage_lines.Goals as goal

pub returns : goal.returns
unfolding usage_lines
returns c = refl
