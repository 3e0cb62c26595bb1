-- `call_of` counts the arguments, then the numbers among them.
use Rattle.commands.proofs.Calls.{call-is}
use borrow.Author.Rules.{rules}
use Rattle.arguments_code.proofs.arguments.call_of.Goals as goal

pub returns : goal.returns
returns c = search (rules, call-is)
