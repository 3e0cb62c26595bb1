-- `fitting_command` asks for the command, and whether it takes what there is.
use Rattle.commands.proofs.Calls.{fitting-none, fitting-some, fitting-other}
use borrow.Author.Rules.{rules}
use Rattle.arguments_code.proofs.arguments.fitting_command.Goals as goal

pub returns-in_err-command : goal.returns-in_err-command
returns-in_err-command c = rw c.from_residual.ensures (fitting-none _ c.in_err-command.was)

pub returns-then-takes : goal.returns-then-takes
returns-then-takes c = search (rules, fitting-some)

pub returns : goal.returns
returns c = search (rules, fitting-other)
