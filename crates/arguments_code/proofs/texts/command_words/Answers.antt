-- `command_words` has these bytes, which both sides compute to.
use mathlib.Core.Path.{refl}
use Rattle.commands.specs.Commands.{command_words}
use Rattle.arguments_code.proofs.texts.command_words.Goals as goal

pub returns : goal.returns
unfolding command_words
returns c = refl
