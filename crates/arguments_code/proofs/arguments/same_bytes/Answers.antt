-- `same_bytes` asks the library whether the two are equal.
use Rattle.commands.proofs.Same.{pointwise_same}
use mathlib.Core.Path.{◌∙◌}
use Rattle.arguments_code.proofs.arguments.same_bytes.Goals as goal

pub returns : goal.returns
returns c = c.eq.ensures ∙ pointwise_same c.args.a.now c.args.b.now
