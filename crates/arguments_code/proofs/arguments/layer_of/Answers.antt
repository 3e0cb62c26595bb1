-- `layer_of` asks whether there is one, and whether it is 0.
use Rattle.commands.proofs.Numbers.{layer-none, layer-zero, layer-given}
use borrow.Author.Rules.{rules}
use Rattle.arguments_code.proofs.arguments.layer_of.Goals as goal

pub returns-then-numbers-eq0 : goal.returns-then-numbers-eq0
returns-then-numbers-eq0 c = search (rules, layer-none)

pub returns-then-n-eq0 : goal.returns-then-n-eq0
returns-then-n-eq0 c = search (rules, layer-zero)

pub returns : goal.returns
returns c = search (rules, layer-given)
