-- `is_number` reads a number that ends behind the last byte.
use Rattle.commands.proofs.Numbers.{number-whole, number-none}
use borrow.Author.Rules.{rules}
use Rattle.arguments_code.proofs.arguments.is_number.Goals as goal

pub returns-in-None : goal.returns-in-None
returns-in-None c = search (rules, number-none)

pub returns-in-Some : goal.returns-in-Some
returns-in-Some c = search (rules, number-whole)
