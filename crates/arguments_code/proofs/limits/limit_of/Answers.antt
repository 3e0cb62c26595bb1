-- `limit_of` reads the table.
use Rattle.commands.proofs.Calls.{limit_is}
use borrow.Author.Rules.{rules}
use Rattle.arguments_code.proofs.limits.limit_of.Goals as goal

pub returns : goal.returns
returns c = search (rules, limit_is)
