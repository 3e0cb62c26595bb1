-- `numbers_of` counts those that the command takes.
use Rattle.commands.proofs.Calls.{numbers-are}
use borrow.Author.Rules.{rules}
use Rattle.arguments_code.proofs.arguments.numbers_of.Goals as goal

pub returns : goal.returns
returns c = search (rules, numbers-are)
