-- `limit_table` has these numbers, which both sides compute to.
use mathlib.Core.Path.{refl}
use Rattle.commands.specs.Commands.{limits}
use Rattle.arguments_code.proofs.limits.limit_table.Goals as goal

pub returns : goal.returns
unfolding limits
returns c = refl
