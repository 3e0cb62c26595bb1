-- `help_texts` has these bytes, which both sides compute to.
use mathlib.Core.Path.{refl}
use Rattle.commands.specs.Commands.{help_texts}
use Rattle.arguments_code.proofs.texts.help_texts.Goals as goal

pub returns : goal.returns
unfolding help_texts
returns c = refl
