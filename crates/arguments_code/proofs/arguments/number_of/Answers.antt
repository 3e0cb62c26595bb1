-- `number_of` reads a number.
use Rattle.commands.proofs.Numbers.{number-value, number-zero}
use borrow.Author.Rules.{rules}
use Rattle.arguments_code.proofs.arguments.number_of.Goals as goal

pub returns-in-None : goal.returns-in-None
returns-in-None c = search (rules, number-zero)

pub returns-in-Some : goal.returns-in-Some
returns-in-Some c = search (rules, number-value)
