-- `box_of` reads the four numbers.
use Rattle.commands.proofs.Numbers.{box-is}
use borrow.Author.Rules.{rules}
use Rattle.arguments_code.proofs.arguments.box_of.Goals as goal

pub returns : goal.returns
returns c = search (rules, box-is)
