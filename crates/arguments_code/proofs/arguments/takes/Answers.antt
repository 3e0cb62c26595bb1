-- `takes` asks the limits one by one.
use Rattle.commands.proofs.Calls.{fits-numbers, fits-names}
use borrow.Author.Rules.{rules}
use Rattle.arguments_code.proofs.arguments.takes.Goals as goal

pub returns-then-is_within : goal.returns-then-is_within
returns-then-is_within c = search (rules, fits-names)

pub returns-else-is_within : goal.returns-else-is_within
returns-else-is_within c = search (rules, fits-numbers)
