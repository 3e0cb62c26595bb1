-- `weight_at` asks whether it is a number.
use Rattle.commands.proofs.Counts.{weight-some, weight-none}
use borrow.Author.Rules.{rules}
use Rattle.arguments_code.proofs.stops.weight_at.Goals as goal

pub returns-then-names_number : goal.returns-then-names_number
returns-then-names_number c = search (rules, weight-some)

pub returns : goal.returns
returns c = search (rules, weight-none)
