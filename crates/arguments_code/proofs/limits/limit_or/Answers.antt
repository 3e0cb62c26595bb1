-- `limit_or` asks whether it is a command, then the table.
use Rattle.commands.proofs.Calls.{limit-none, limit-some}
use borrow.Author.Rules.{rules}
use Rattle.arguments_code.proofs.limits.limit_or.Goals as goal

pub returns-in-Some : goal.returns-in-Some
returns-in-Some c = search (rules, limit-some)

pub returns-in-None : goal.returns-in-None
returns-in-None c = search (rules, limit-none)
